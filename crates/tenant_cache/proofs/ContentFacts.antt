-- What holds on a map holds on each map that has its text, since that is this map alone.
use Rattle.std.proofs.Common.{◌≡◌, Option, Some, None, IfSome, subst, sym}
use Rattle.crush_pool.specs.Contents.{Content, content_of}
use Rattle.crush_map.specs.Map.{IsMap, Map}
use Rattle.crush_pool.specs.Placers.{PoolOnMap}
use Rattle.crush_text.specs.MapText.{IsTextOf}
use Rattle.crush_text.specs.crush_writing.specs.Canonical.{canonical}
use Rattle.tenant_cache.specs.Last.{IsOf}

on_each_map : (P : PoolOnMap → Type 0) (p : PoolOnMap) → ((m : Map) → IsMap m → IsTextOf (canonical m) m) → ((m n : Map) → IsMap m → IsTextOf (canonical m) n → n ≡ m)
    → IsMap p.map → P p → (m : Map) → IsMap m → canonical p.map ≡ canonical m → P (record { map = m; states = p.states; pool = p.pool; pairs = p.pairs })
on_each_map P p own alone is holds m also text =
    let same : m ≡ p.map = alone p.map m is (subst (λ t. IsTextOf t m) (sym text) (own m also)) in
    subst (λ n. P (record { map = n; states = p.states; pool = p.pool; pairs = p.pairs })) (sym same) holds

-- what was found on a map is that of its content
pub made : {G : Type 0} (are_on : PoolOnMap → G → Type 0) (c : Content) (p : PoolOnMap) (found : Option G) → ((m : Map) → IsMap m → IsTextOf (canonical m) m) → ((m n : Map) → IsMap m → IsTextOf (canonical m) n → n ≡ m)
    → IsMap p.map → c ≡ content_of p → IfSome found (are_on p) → IfSome found (IsOf are_on c)
made are_on c p None own alone is same h = h
made are_on c p (Some found) own alone is same h = subst (λ d. IsOf are_on d found) (sym same) (on_each_map (λ q. are_on q found) p own alone is h)
