-- An inventory takes at least the bytes of its counted parts.
use Rattle.std.proofs.Common.{◌≡◌, ◌≤◌, ◌+◌, ◌*◌, ◌++◌, ℕ, List, [], ◌∷◌, length, Bool, true, false, Option, Some, refl, sym, ap, subst, arith, bytes_eq}
use Rattle.std.specs.List.{sum_by}
use Rattle.std.specs.Map.{lookup, values_of}
use Rattle.std.proofs.lemmas.List.Sums.{sum_by-append, sum_by-cons, sum_by-le-sum_by}
use Rattle.crush_map.specs.Map.{Map}
use Rattle.tenant_core.specs.crush_text.specs.crush_writing.specs.Canonical.{canonical}
use Rattle.tenant_cache.specs.Kept.{KeptTenants, ReadyTenant, bytes_kept, kept_at}
use Rattle.crush_laws.specs.Sizes.{item_count, pair_count, step_count, text_bytes}
use Rattle.tenant_core.specs.tenant_state.specs.Size.{items_in, pool_size, size, states_size, steps_in, version_size}
use Rattle.tenant_core.specs.tenant_state.specs.State.{Inventory, TenantPool}

of_versions : (ms : List Map) → sum_by (λ (m : Map). length (canonical m)) ms + 8 * sum_by (λ (m : Map). items_in m.buckets) ms + 16 * sum_by (λ (m : Map). steps_in m.rules) ms ≤ sum_by version_size ms
of_versions [] = omega arith
of_versions (m ∷ ms) =
    let rest = of_versions ms in
    omega (
      arith,
      rest,
      sum_by-cons (λ (m : Map). length (canonical m)) m ms,
      sum_by-cons (λ (m : Map). items_in m.buckets) m ms,
      sum_by-cons (λ (m : Map). steps_in m.rules) m ms,
      sum_by-cons version_size m ms,
    )

of_pools : (ps : List TenantPool) → 12 * sum_by (λ (p : TenantPool). length p.pairs) ps ≤ sum_by pool_size ps
of_pools [] = omega arith
of_pools (p ∷ ps) =
    let rest = of_pools ps in
    omega (arith, rest, sum_by-cons (λ (p : TenantPool). length p.pairs) p ps, sum_by-cons pool_size p ps)

pub takes_lists : (i : Inventory) → text_bytes i + 8 * item_count i + 16 * step_count i + 12 * length i.devices + 12 * pair_count i ≤ size i
takes_lists i = omega (arith, of_versions i.versions, of_pools i.pools)

pub takes_texts : (i : Inventory) → text_bytes i ≤ size i
takes_texts i = omega (arith, takes_lists i)

pub one_version : (i : Inventory) (m : Map) → size (record i { versions = i.versions ++ m ∷ [] }) ≡ size i + version_size m
one_version i m = omega (arith, sum_by-append version_size i.versions (m ∷ []), sum_by-cons version_size m [])

pub one_pool : (i : Inventory) (p : TenantPool) → size (record i { pools = i.pools ++ p ∷ [] }) ≡ size i + pool_size p
one_pool i p = omega (arith, sum_by-append pool_size i.pools (p ∷ []), sum_by-cons pool_size p [])

-- ---- what is kept

found_in : {K : Type 0} (f : ReadyTenant → ℕ) (test : K → Bool) (es : List (K × ReadyTenant)) (r : ReadyTenant) → lookup test es ≡ Some r → f r ≤ sum_by f (values_of es)
found_in f test [] r found = cc
found_in {K} f test ((k, v) ∷ es) r found =
    let by : (b : Bool) → test k ≡ b → f r ≤ f v + sum_by f (values_of es) = λ b. elim b as (λ c. test k ≡ c → f r ≤ f v + sum_by f (values_of es)) [
      | true ↦ λ e. (let here : Some v ≡ Some r = rw e at found in let same : v ≡ r = cc in let both : f v ≡ f r = ap f same in omega (arith, both))
      | false ↦ λ e. (let later = found_in f test es r (rw e at found) in omega (arith, later))
    ] in subst (λ n. f r ≤ n) (sym (sum_by-cons f v (values_of es))) (by (test k) refl)

pub takes_each : (kept : KeptTenants) (name : List ℕ) (r : ReadyTenant) → kept_at kept name ≡ Some r → size r.inventory ≤ bytes_kept kept
takes_each kept name r found = found_in (λ (r : ReadyTenant). size r.inventory) (bytes_eq name) kept.entries r found

pub takes_all : (kept : KeptTenants) → sum_by (λ (r : ReadyTenant). text_bytes r.inventory) (values_of kept.entries) ≤ bytes_kept kept
takes_all kept = sum_by-le-sum_by (λ (r : ReadyTenant). text_bytes r.inventory) (λ (r : ReadyTenant). size r.inventory) (values_of kept.entries) (λ r. takes_texts r.inventory)
