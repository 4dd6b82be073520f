-- What stays true of pools when one of them gets other pairs.
use Rattle.std.proofs.Common.{◌≡◌, ℕ, zero, suc, ◌<◌, ◌==◌, ◌&&◌, not, List, [], ◌∷◌, length, map, Bool, true, false, Some, position, find, slice_index_or, slice_set, if◌then◌else◌, bytes_eq, nat_le, nat_lt, refl, sym, ap, ◌∙◌, arith}
use Rattle.std.proofs.lemmas.List.Sums.{fails_before_first, passes_at_first}
use Rattle.std.specs.List.{list_all, list_any}
use Rattle.crush_pool.specs.Exceptions.{are_pairs, is_pair}
use Rattle.crush_pool.specs.Pools.{is_pool}
use Rattle.crush_map.specs.declared.limits.TheConstants.{NUMBER_LIMIT}
use Rattle.crush_pool.specs.declared.limits.TheConstants.{GROUP_LIMIT, PAIR_LIMIT}
use Rattle.crush_pool.specs.declared.exceptions.Pair.{Pair}
use Rattle.tenant_state.proofs.Ordering.{place-in, place_is}
use Rattle.tenant_state.proofs.Staying.{both_true}
use Rattle.tenant_state.specs.Ordered.{is_ascending, is_before_first}
use Rattle.tenant_state.specs.State.{TenantPool, can_have, is_lower_pool, with_pairs}
use Rattle.tenant_state.specs.Valid.{are_named_once, is_tenant_pool}

-- the pool with these pairs
abbrev pub with_own : List Pair → TenantPool → TenantPool
with_own pairs p = record p { pairs = pairs }

-- ---- a test that looks at no pairs

pub any_paired : (t : TenantPool → Bool) (id : ℕ) (pairs : List Pair) (ps : List TenantPool) → ((p : TenantPool) → t (with_own pairs p) ≡ t p)
    → list_any t (with_pairs id pairs ps) ≡ list_any t ps
any_paired t id pairs [] same = refl
any_paired t id pairs (p ∷ ps) same = placed (p.parts.id == id) (same p) (any_paired t id pairs ps same)
  where
    placed : (b : Bool) → t (with_own pairs p) ≡ t p → list_any t (with_pairs id pairs ps) ≡ list_any t ps
        → list_any t (if b then with_own pairs p ∷ ps else p ∷ with_pairs id pairs ps) ≡ list_any t (p ∷ ps)
    placed true one rest = rw one refl
    placed false one rest = rw rest refl

pub all_paired : (t : TenantPool → Bool) (id : ℕ) (pairs : List Pair) (ps : List TenantPool) → ((p : TenantPool) → t (with_own pairs p) ≡ t p)
    → list_all t (with_pairs id pairs ps) ≡ list_all t ps
all_paired t id pairs [] same = refl
all_paired t id pairs (p ∷ ps) same = placed (p.parts.id == id) (same p) (all_paired t id pairs ps same)
  where
    placed : (b : Bool) → t (with_own pairs p) ≡ t p → list_all t (with_pairs id pairs ps) ≡ list_all t ps
        → list_all t (if b then with_own pairs p ∷ ps else p ∷ with_pairs id pairs ps) ≡ list_all t (p ∷ ps)
    placed true one rest = rw one refl
    placed false one rest = rw rest refl

pub as_many_paired : (id : ℕ) (pairs : List Pair) (ps : List TenantPool) → length (with_pairs id pairs ps) ≡ length ps
as_many_paired id pairs [] = refl
as_many_paired id pairs (p ∷ ps) = placed (p.parts.id == id) (as_many_paired id pairs ps)
  where
    placed : (b : Bool) → length (with_pairs id pairs ps) ≡ length ps
        → length (if b then with_own pairs p ∷ ps else p ∷ with_pairs id pairs ps) ≡ suc (length ps)
    placed true rest = refl
    placed false rest = ap suc rest

-- ---- names

pub named_paired : (id : ℕ) (pairs : List Pair) (ps : List TenantPool) → are_named_once (with_pairs id pairs ps) ≡ are_named_once ps
named_paired id pairs [] = refl
named_paired id pairs (p ∷ ps) =
    placed (p.parts.id == id) (any_paired (λ q. bytes_eq q.parts.name p.parts.name) id pairs ps (λ q. refl)) (named_paired id pairs ps)
  where
    placed : (b : Bool) → list_any (λ q. bytes_eq q.parts.name p.parts.name) (with_pairs id pairs ps) ≡ list_any (λ q. bytes_eq q.parts.name p.parts.name) ps
        → are_named_once (with_pairs id pairs ps) ≡ are_named_once ps
        → are_named_once (if b then with_own pairs p ∷ ps else p ∷ with_pairs id pairs ps) ≡ are_named_once (p ∷ ps)
    placed true others rest = refl
    placed false others rest = rw (others, rest) refl

-- ---- the order of ids

own_before : (pairs : List Pair) (p : TenantPool) (ps : List TenantPool) → is_before_first is_lower_pool (with_own pairs p) ps ≡ is_before_first is_lower_pool p ps
own_before pairs p [] = refl
own_before pairs p (q ∷ qs) = refl

before_paired : (id : ℕ) (pairs : List Pair) (p : TenantPool) (ps : List TenantPool)
    → is_before_first is_lower_pool p (with_pairs id pairs ps) ≡ is_before_first is_lower_pool p ps
before_paired id pairs p [] = refl
before_paired id pairs p (q ∷ qs) = placed (q.parts.id == id)
  where
    placed : (b : Bool) → is_before_first is_lower_pool p (if b then with_own pairs q ∷ qs else q ∷ with_pairs id pairs qs) ≡ is_lower_pool p q
    placed true = refl
    placed false = refl

pub ascending_paired : (id : ℕ) (pairs : List Pair) (ps : List TenantPool) → is_ascending is_lower_pool (with_pairs id pairs ps) ≡ is_ascending is_lower_pool ps
ascending_paired id pairs [] = refl
ascending_paired id pairs (p ∷ ps) =
    placed (p.parts.id == id) (own_before pairs p ps) (before_paired id pairs p ps) (ascending_paired id pairs ps)
  where
    placed : (b : Bool) → is_before_first is_lower_pool (with_own pairs p) ps ≡ is_before_first is_lower_pool p ps
        → is_before_first is_lower_pool p (with_pairs id pairs ps) ≡ is_before_first is_lower_pool p ps
        → is_ascending is_lower_pool (with_pairs id pairs ps) ≡ is_ascending is_lower_pool ps
        → is_ascending is_lower_pool (if b then with_own pairs p ∷ ps else p ∷ with_pairs id pairs ps) ≡ is_ascending is_lower_pool (p ∷ ps)
    placed true own first rest = rw own refl
    placed false own first rest = rw (first, rest) refl

-- ---- ranges

both : (a b : Bool) → a ≡ true → b ≡ true → (a && b) ≡ true
both a b h g = rw (h, g) refl

-- where the pairs are exceptions that the pool with the id can have
pub in_range_paired : (id : ℕ) (pairs : List Pair) (ps : List TenantPool) → list_all is_tenant_pool ps ≡ true → can_have pairs (find (λ p. p.parts.id == id) ps) ≡ true
    → list_all is_tenant_pool (with_pairs id pairs ps) ≡ true
in_range_paired id pairs [] all can = refl
in_range_paired id pairs (p ∷ ps) all can =
    let are = both_true (is_tenant_pool p) (list_all is_tenant_pool ps) all in
    let parts = both_true (is_pool p.parts) (are_pairs p.parts.pg_num p.pairs) are.0 in
    placed (p.parts.id == id) refl parts.0 are.0 are.1 (λ later. in_range_paired id pairs ps are.1 later)
  where
    placed : (b : Bool) → (p.parts.id == id) ≡ b → is_pool p.parts ≡ true → is_tenant_pool p ≡ true → list_all is_tenant_pool ps ≡ true
        → (can_have pairs (find (λ p. p.parts.id == id) ps) ≡ true → list_all is_tenant_pool (with_pairs id pairs ps) ≡ true)
        → list_all is_tenant_pool (if b then with_own pairs p ∷ ps else p ∷ with_pairs id pairs ps) ≡ true
    placed true is own one rest after =
        let fits : are_pairs p.parts.pg_num pairs ≡ true = rw is at can in
        both (is_tenant_pool (with_own pairs p)) (list_all is_tenant_pool ps) (both (is_pool p.parts) (are_pairs p.parts.pg_num pairs) own fits) rest
    placed false is own one rest after =
        let later = after (rw is at can) in both (is_tenant_pool p) (list_all is_tenant_pool (with_pairs id pairs ps)) one later

-- ---- pairs of fewer groups

one_of : (a b x y z : Bool) → (a && x && y && z) ≡ true → b ≡ (b && x && y && z)
one_of false b x y z h = cc
one_of true b false y z h = cc
one_of true b true false z h = cc
one_of true b true true false h = cc
one_of true true true true true h = refl
one_of true false true true true h = refl

one_below : (groups : ℕ) (p : Pair) → is_pair GROUP_LIMIT p ≡ true → nat_lt p.group groups ≡ is_pair groups p
one_below groups p h =
    one_of (nat_lt p.group GROUP_LIMIT) (nat_lt p.group groups) (nat_le p.from NUMBER_LIMIT) (nat_le p.to NUMBER_LIMIT) (not (p.from == p.to)) h

each_below : (groups : ℕ) (pairs : List Pair) → list_all (is_pair GROUP_LIMIT) pairs ≡ true → list_all (λ p. nat_lt p.group groups) pairs ≡ list_all (is_pair groups) pairs
each_below groups [] h = refl
each_below groups (p ∷ pairs) h =
    let are = both_true (is_pair GROUP_LIMIT p) (list_all (is_pair GROUP_LIMIT) pairs) h in
    ap (λ b. b && list_all (λ (q : Pair). nat_lt q.group groups) pairs) (one_below groups p are.0) ∙ ap (λ b. is_pair groups p && b) (each_below groups pairs are.1)

-- pairs that some pool can have are those of a pool that has their groups
pub are_below : (groups : ℕ) (pairs : List Pair) → are_pairs GROUP_LIMIT pairs ≡ true → list_all (λ p. nat_lt p.group groups) pairs ≡ are_pairs groups pairs
are_below groups pairs h =
    let are = both_true (nat_le (length pairs) PAIR_LIMIT) (list_all (is_pair GROUP_LIMIT) pairs) h in
    each_below groups pairs are.1 ∙ sym (ap (λ b. b && list_all (is_pair groups) pairs) are.0)

-- ---- the pool at its place

paired_at : {B : Type 0} (v : B → TenantPool) (id : ℕ) (pairs : List Pair) (new d : B) (i : ℕ) (xs : List B) → i < length xs
    → ((k : ℕ) → k < i → ((v (slice_index_or xs k d)).parts.id == id) ≡ false) → ((v (slice_index_or xs i d)).parts.id == id) ≡ true
    → v new ≡ with_own pairs (v (slice_index_or xs i d)) → map v (slice_set xs i new) ≡ with_pairs id pairs (map v xs)
paired_at v id pairs new d i [] within below at own = absurd (omega (arith, within))
paired_at v id pairs new d zero (x ∷ xs) within below at own = rw at (ap (λ p. p ∷ map v xs) own)
paired_at v id pairs new d (suc i) (x ∷ xs) within below at own =
    let head : ((v x).parts.id == id) ≡ false = below 0 (omega arith) in
    let rest = paired_at v id pairs new d i xs (omega (arith, within)) (λ k lower. below (suc k) (omega (arith, lower))) at own in
    rw head (ap (λ l. v x ∷ l) rest)

-- the first pool that has the id gives its place to itself with other pairs
pub paired : {B : Type 0} (v : B → TenantPool) (id : ℕ) (pairs : List Pair) (new d : B) (i : ℕ) (xs : List B) → position (λ x. (v x).parts.id == id) xs ≡ Some i
    → v new ≡ with_own pairs (v (slice_index_or xs i d)) → map v (slice_set xs i new) ≡ with_pairs id pairs (map v xs)
paired {B} v id pairs new d i xs h own =
    let p : B → Bool = λ x. (v x).parts.id == id in
    let is = place_is p xs i h in let within = place-in p xs i h in
    paired_at v id pairs new d i xs within (λ k lower. fails_before_first p xs k d (omega (arith, lower, is)))
    (rw is (passes_at_first p xs d (omega (arith, within, is)))) own
