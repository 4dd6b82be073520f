-- The rows of a state's parts: each is one of its table, and their keys rise, in one order alone.
use Rattle.std.proofs.Common.{◌≡◌, ℕ, pos, suc, ◌+◌, ◌<◌, add-one, List, [], ◌∷◌, length, map, get_or, Bool, true, false, nat_lt, Ordering, Less, is_lt, arith, refl, ap, ◌∙◌, IsPermutation, IsSorted, IsUtf8}
use Rattle.std.specs.Cmp.{IsTotalOrder}
use Rattle.std.specs.List.{All, AllByRecursion, list_all}
use Rattle.std.specs.Ordering.{ordering_reverse, ordering_then}
use Rattle.std.proofs.lemmas.Bool.Decides.{nat_tests}
use Rattle.std.proofs.lemmas.Cmp.{on_total, then_total}
use Rattle.std.proofs.lemmas.List.Elements.{All-head, All-tail}
use Rattle.std.proofs.lemmas.List.Sorted.{IsPermutation-sym, IsPermutation-trans}
use Rattle.table_schema.specs.sqlite_value.specs.Order.{Row, column, value_cmp}
use Rattle.table_schema.specs.sqlite_value.proofs.OrderLemmas.{value_cmp_total}
use Rattle.table_schema.specs.sqlite_keyed.proofs.ListLemmas.{all-append, all_weaker, ascending-append}
use Rattle.table_schema.specs.sqlite_keyed.proofs.SortLemmas.{sorted_unique}
use Rattle.crush_text.specs.crush_grammar.proofs.Names.{are_utf8}
use Rattle.crush_map.specs.Faults.{is_name, is_name_byte}
use Rattle.crush_map.specs.Map.{Map, IsMap}
use Rattle.crush_pool.specs.Pools.{is_pool}
use Rattle.crush_pool.specs.Exceptions.{are_pairs}
use Rattle.crush_pool.specs.declared.exceptions.Pair.{Pair}
use Rattle.crush_pool.specs.declared.pool.PoolParts.{PoolParts}
use Rattle.crush_pool.specs.declared.states.DeviceState.{DeviceState}
use Rattle.crush_text.specs.crush_writing.specs.Canonical.{canonical}
use Rattle.tenant_state.specs.Ordered.{is_ascending}
use Rattle.tenant_state.specs.Receipts.{Receipts, is_before}
use Rattle.tenant_state.specs.State.{TenantPool, is_lower_device, is_lower_pool}
use Rattle.tenant_state.specs.Valid.{is_tenant_pool}
use Rattle.sqlite_trees.specs.Tree.{IsAscending}
use Rattle.table_schema.specs.Found.{IsRising, IsVersionRow, IsStateRow, IsPoolRow, IsExceptionRow, Precedes}
use Rattle.table_schema.proofs.Placing.{in_one_pool}
use Rattle.table_schema.proofs.Rising.{below_int, below_text, neighbours}
use Rattle.tenant_tables.specs.Rows.{flag, row_of_version, rows_of_versions, row_of_state, row_of_pool, row_of_pair, rows_of_pairs, rows_of_exceptions, row_of_receipt}
use Rattle.tenant_tables.proofs.Reading.{first, second}

-- ---- keys that rise

abbrev key_cmp : Row → Row → Ordering
key_cmp a b = value_cmp (column a 0) (column b 0)

abbrev Rises : Row → Row → Type 0
Rises a b = key_cmp a b ≡ Less

key_total : IsTotalOrder key_cmp
key_total = on_total (λ (r : Row). column r 0) value_cmp_total

module _ {V : Type 0} (before : V → V → Bool) (g : V → Row) (step : (u v : V) → before u v ≡ true → Rises (g u) (g v)) where
  rising : (vs : List V) → is_ascending before vs ≡ true → IsRising (map g vs)
  rising [] h = tt
  rising (v ∷ []) h = (tt, tt)
  rising (v ∷ w ∷ vs) h =
      let near = step v w (first (before v w) (is_ascending before (w ∷ vs)) h) in
      let rest = rising (w ∷ vs) (second (before v w) (is_ascending before (w ∷ vs)) h) in
      ((near, all_weaker (Rises (g w)) (Rises (g v)) (λ z. key_total.trans (g v) (g w) z near) (map g vs) rest.0), rest)

pub states_rise : (vs : List DeviceState) → is_ascending is_lower_device vs ≡ true → IsRising (map row_of_state vs)
states_rise = rising is_lower_device row_of_state (λ s t low. below_int (pos s.device) (pos t.device) low)

pub pools_rise : (vs : List TenantPool) → is_ascending is_lower_pool vs ≡ true → IsRising (map row_of_pool vs)
pools_rise = rising is_lower_pool row_of_pool (λ p q low. below_int (pos p.parts.id) (pos q.parts.id) low)

pub receipts_rise : (vs : Receipts) → is_ascending is_before vs ≡ true → IsRising (map row_of_receipt vs)
receipts_rise = rising is_before row_of_receipt (λ r s low. below_text r.0 s.0 low)

later_versions : (n start : ℕ) (m : Map) (maps : List Map) → n < start → AllByRecursion (Rises (row_of_version n m)) (rows_of_versions start maps)
later_versions n start m [] low = tt
later_versions n start m (k ∷ maps) low =
    let less : nat_lt n start ≡ true = grind (arith, nat_tests) in
    (below_int (pos n) (pos start) less, later_versions n (start + 1) m maps (omega (arith, low)))

pub versions_rise : (start : ℕ) (maps : List Map) → IsRising (rows_of_versions start maps)
versions_rise start [] = tt
versions_rise start (m ∷ maps) = (later_versions start (start + 1) m maps (omega arith), versions_rise (start + 1) maps)

-- ---- the order of pool and place

abbrev place_cmp : Row → Row → Ordering
place_cmp a b = ordering_then (value_cmp (column a 0) (column b 0)) (value_cmp (column a 1) (column b 1))

place_total : IsTotalOrder place_cmp
place_total = then_total (on_total (λ (r : Row). column r 0) value_cmp_total) (on_total (λ (r : Row). column r 1) value_cmp_total)

later_pairs : (pool n start : ℕ) (p : Pair) (pairs : List Pair) → n < start → AllByRecursion (Precedes (row_of_pair pool n p)) (rows_of_pairs pool start pairs)
later_pairs pool n start p [] low = tt
later_pairs pool n start p (q ∷ pairs) low =
    let less : nat_lt n start ≡ true = grind (arith, nat_tests) in
    ((in_one_pool (pos pool) (pos pool) (pos n) (pos start) refl).0 less, later_pairs pool n (start + 1) p pairs (omega (arith, low)))

pairs_rise : (pool start : ℕ) (pairs : List Pair) → IsAscending Precedes (rows_of_pairs pool start pairs)
pairs_rise pool start [] = tt
pairs_rise pool start (p ∷ pairs) = (later_pairs pool start (start + 1) p pairs (omega arith), pairs_rise pool (start + 1) pairs)

-- what holds of each row of pairs
pub all_pairs : (P : Row → Type 0) (pool place : ℕ) (pairs : List Pair) → ((m : ℕ) (q : Pair) → P (row_of_pair pool m q)) → AllByRecursion P (rows_of_pairs pool place pairs)
all_pairs P pool place [] each = tt
all_pairs P pool place (p ∷ pairs) each = (each place p, all_pairs P pool (place + 1) pairs each)

pub tail_up : (p : TenantPool) (ps : List TenantPool) → is_ascending is_lower_pool (p ∷ ps) ≡ true → is_ascending is_lower_pool ps ≡ true
tail_up p [] up = refl
tail_up p (q ∷ qs) up = second (is_lower_pool p q) (is_ascending is_lower_pool (q ∷ qs)) up

lower_id : (p q : TenantPool) → is_lower_pool p q ≡ true → p.parts.id < q.parts.id
lower_id p q h = grind (arith, nat_tests)

-- what holds of the rows of each pool that has a higher id
all_later : (P : Row → Type 0) (n : ℕ) (p : TenantPool) (ps : List TenantPool) → n < p.parts.id + 1 → is_ascending is_lower_pool (p ∷ ps) ≡ true → ((k m : ℕ) (q : Pair) → n < k → P (row_of_pair k m q))
    → AllByRecursion P (rows_of_exceptions ps)
all_later P n p [] low up each = tt
all_later P n p (q ∷ qs) low up each =
    let next : p.parts.id < q.parts.id = lower_id p q (first (is_lower_pool p q) (is_ascending is_lower_pool (q ∷ qs)) up) in
    all-append P (rows_of_pairs q.parts.id 0 q.pairs) (rows_of_exceptions qs) (all_pairs P q.parts.id 0 q.pairs (λ m r. each q.parts.id m r (omega (arith, low, next))))
    (all_later P n q qs (omega (arith, low, next)) (second (is_lower_pool p q) (is_ascending is_lower_pool (q ∷ qs)) up) each)

other_pool : (k m n l : ℕ) (p q : Pair) → k < n → Precedes (row_of_pair k m p) (row_of_pair n l q)
other_pool k m n l p q low =
    let less : nat_lt k n ≡ true = grind (arith, nat_tests) in
    ap (λ o. ordering_then o (value_cmp (column (row_of_pair k m p) 1) (column (row_of_pair n l q) 1))) (below_int (pos k) (pos n) less)

pub exceptions_rise : (ps : List TenantPool) → is_ascending is_lower_pool ps ≡ true → IsAscending Precedes (rows_of_exceptions ps)
exceptions_rise [] up = tt
exceptions_rise (p ∷ ps) up =
    ascending-append Precedes (rows_of_pairs p.parts.id 0 p.pairs) (rows_of_exceptions ps) (pairs_rise p.parts.id 0 p.pairs) (exceptions_rise ps (tail_up p ps up))
    (all_pairs (λ row. AllByRecursion (Precedes row) (rows_of_exceptions ps)) p.parts.id 0 p.pairs
    (λ m q. all_later (Precedes (row_of_pair p.parts.id m q)) p.parts.id p ps (omega arith) up (λ k l r low. other_pool p.parts.id m k l q r low)))

-- ---- rows have one order

module _ (cmp : Row → Row → Ordering) (total : IsTotalOrder cmp) where
  not_below : (a b : Row) → cmp a b ≡ Less → is_lt (cmp b a) ≡ false
  not_below a b up = ap is_lt (total.antisymm b a ∙ ap ordering_reverse up)

  one_order_by : (all xs ys : List Row) → IsAscending (λ a b. cmp a b ≡ Less) xs → IsAscending (λ a b. cmp a b ≡ Less) ys → IsPermutation all xs → IsPermutation all ys → xs ≡ ys
  one_order_by all xs ys up other same those =
      let sorted : IsSorted cmp xs = λ k d low within. rw add-one (not_below (get_or xs k d) (get_or xs (suc k) d) (neighbours (λ a b. cmp a b ≡ Less) xs up k d d (omega (arith, within)))) in
      sorted_unique cmp total ys xs other (IsPermutation-trans ys all xs (IsPermutation-sym all ys those) same) sorted

-- in which their keys rise
pub one_order : (all xs ys : List Row) → IsRising xs → IsRising ys → IsPermutation all xs → IsPermutation all ys → xs ≡ ys
one_order = one_order_by key_cmp key_total

-- by pool and place
pub one_placed : (all xs ys : List Row) → IsAscending Precedes xs → IsAscending Precedes ys → IsPermutation all xs → IsPermutation all ys → xs ≡ ys
one_placed = one_order_by place_cmp place_total

-- ---- rows of the tables

pub are_versions : ((m : Map) → IsMap m → IsUtf8 (canonical m)) → (start : ℕ) (maps : List Map) → All IsMap maps → AllByRecursion IsVersionRow (rows_of_versions start maps)
are_versions utf8 start [] all = tt
are_versions utf8 start (m ∷ maps) all =
    ((pos start, canonical m, utf8 m (All-head IsMap m maps all), refl), are_versions utf8 (start + 1) maps (All-tail IsMap m maps all))

pub are_states : (states : List DeviceState) → AllByRecursion IsStateRow (map row_of_state states)
are_states [] = tt
are_states (s ∷ states) = ((record { device = pos s.device; reweight = pos s.reweight; up = flag s.up }, refl), are_states states)

name_of : (p : PoolParts) → is_pool p ≡ true → is_name p.name ≡ true
name_of p h = grind (arith, nat_tests)

text_of_name : (name : List ℕ) → is_name name ≡ true → IsUtf8 name
text_of_name name h = are_utf8 name (second _ (list_all is_name_byte name) h)

pub are_pools : (pools : List TenantPool) → list_all is_tenant_pool pools ≡ true → AllByRecursion IsPoolRow (map row_of_pool pools)
are_pools [] all = tt
are_pools (t ∷ pools) all =
    let p = t.parts in
    let is = first (is_pool p) (are_pairs p.pg_num t.pairs) (first (is_tenant_pool t) (list_all is_tenant_pool pools) all) in (
      (pos p.id, p.name, text_of_name p.name (name_of p is), flag p.erasure, pos p.size, pos p.rule, pos p.pg_num, pos p.pgp_num, flag p.hashpspool, pos (length t.pairs), refl),
      are_pools pools (second (is_tenant_pool t) (list_all is_tenant_pool pools) all),
    )

pub are_exceptions : (pools : List TenantPool) → AllByRecursion IsExceptionRow (rows_of_exceptions pools)
are_exceptions [] = tt
are_exceptions (p ∷ pools) =
    all-append IsExceptionRow (rows_of_pairs p.parts.id 0 p.pairs) (rows_of_exceptions pools)
    (all_pairs IsExceptionRow p.parts.id 0 p.pairs (λ m q. (record { pool = pos p.parts.id; place = pos m; group = pos q.group; from = pos q.from; to = pos q.to }, refl))) (are_exceptions pools)
