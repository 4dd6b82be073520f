-- What `Eq` and `Hash` of a content owe: contents are equal exactly where all that they have is.
use Rattle.std.specs.Prelude.{◌≡◌, ◌≢◌, true, false, refl}
use Rattle.std.proofs.Common.{ap}
use Rattle.std.proofs.lemmas.Bool.Decides.{Decides-and, Decides-like}
use Rattle.std.specs.Bool.{Decides}
use Rattle.std.specs.Cmp.{IsEquivalence, IsPartialEquivalence, booleans_Decides, decided, partial_equiv_from_equiv, unsigned_Decides}
use Rattle.std.specs.Cmp.Lexicographic.{bytes_decides, pointwise_decides}
use Rattle.crush_pool.specs.declared.exceptions.Pair.{Pair}
use Rattle.crush_pool.specs.declared.pool.PoolParts.{PoolParts}
use Rattle.crush_pool.specs.declared.states.DeviceState.{DeviceState}
use Rattle.crush_pool.specs.Contents.{Content, content_eq, content_hash, content_writes, pair_eq, pool_eq, state_eq}

pub state_decides : (s t : DeviceState) → Decides (state_eq s t) (s ≡ t)
state_decides s t =
    Decides-like _ (λ h i. record { device = h.0.0 i; reweight = h.0.1 i; up = h.1 i }) (λ e. ((ap (λ u. u.device) e, ap (λ u. u.reweight) e), ap (λ u. u.up) e))
    (Decides-and _ _ (Decides-and _ _ (unsigned_Decides s.device t.device) (unsigned_Decides s.reweight t.reweight)) (booleans_Decides s.up t.up))

pub pair_decides : (p q : Pair) → Decides (pair_eq p q) (p ≡ q)
pair_decides p q =
    Decides-like _ (λ h i. record { group = h.0.0 i; from = h.0.1 i; to = h.1 i }) (λ e. ((ap (λ r. r.group) e, ap (λ r. r.from) e), ap (λ r. r.to) e))
    (Decides-and _ _ (Decides-and _ _ (unsigned_Decides p.group q.group) (unsigned_Decides p.from q.from)) (unsigned_Decides p.to q.to))

pub pool_decides : (p q : PoolParts) → Decides (pool_eq p q) (p ≡ q)
pool_decides p q =
    let front = Decides-and _ _ (Decides-and _ _ (Decides-and _ _ (unsigned_Decides p.id q.id) (bytes_decides p.name q.name)) (booleans_Decides p.erasure q.erasure)) (unsigned_Decides p.size q.size) in
    let middle = Decides-and _ _ (Decides-and _ _ front (unsigned_Decides p.rule q.rule)) (unsigned_Decides p.pg_num q.pg_num) in
    Decides-like _
    (λ h i. record { id = h.0.0.0.0.0.0.0 i; name = h.0.0.0.0.0.0.1 i; erasure = h.0.0.0.0.0.1 i; size = h.0.0.0.0.1 i; rule = h.0.0.0.1 i; pg_num = h.0.0.1 i; pgp_num = h.0.1 i; hashpspool = h.1 i })
    (λ e. (((((((ap (λ r. r.id) e, ap (λ r. r.name) e), ap (λ r. r.erasure) e), ap (λ r. r.size) e), ap (λ r. r.rule) e), ap (λ r. r.pg_num) e), ap (λ r. r.pgp_num) e), ap (λ r. r.hashpspool) e))
    (Decides-and _ _ (Decides-and _ _ middle (unsigned_Decides p.pgp_num q.pgp_num)) (booleans_Decides p.hashpspool q.hashpspool))

pub content_decides : (a b : Content) → Decides (content_eq a b) (a ≡ b)
content_decides a b =
    Decides-like _ (λ h i. record { text = h.1 i; states = h.0.1 i; pool = h.0.0.0 i; pairs = h.0.0.1 i })
    (λ e. (((ap (λ c. c.pool) e, ap (λ c. c.pairs) e), ap (λ c. c.states) e), ap (λ c. c.text) e))
    (Decides-and _ _
    (Decides-and _ _ (Decides-and _ _ (pool_decides a.pool b.pool) (pointwise_decides pair_decides a.pairs b.pairs)) (pointwise_decides state_decides a.states b.states))
    (bytes_decides a.text b.text))

pub content_laws : IsPartialEquivalence content_eq × IsEquivalence content_eq
content_laws = let e = decided content_eq content_decides in (partial_equiv_from_equiv e, e)

pub content_respects : (a b : Content) → content_eq a b ≡ true → content_writes a ≡ content_writes b
content_respects a b same = ap content_writes ((content_decides a b).0 same)

-- contents with different hashes differ
pub hashes_differ : (a b : Content) → content_hash a ≢ content_hash b → content_eq a b ≡ false
hashes_differ a b differ = (elim (content_eq a b) as (λ t. content_eq a b ≡ t → t ≡ false) [
  | true ↦ λ same. absurd (differ (ap content_hash ((content_decides a b).0 same)))
  | false ↦ λ _. refl
]) refl
