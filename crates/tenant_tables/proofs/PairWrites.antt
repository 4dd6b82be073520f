-- What a change of pools writes of their pairs.
use Rattle.std.proofs.Common.{◌≡◌, inl, inr, ℕ, ℤ, pos, ◌+◌, ◌<◌, ◌≤◌, ◌==◌, ◌||◌, List, [], ◌∷◌, ◌++◌, length, map, find, fold, take, Bool, true, false, not, nat_le, if◌then◌else◌, arith, refl, sym, ap, subst, ◌∙◌, append_assoc}
use Rattle.std.specs.List.{list_any}
use Rattle.std.specs.List.Sorted.{IsPermutation}
use Rattle.std.proofs.lemmas.List.Elements.{filter-append}
use Rattle.std.proofs.lemmas.List.Sorted.{IsPermutation-append_comm, IsPermutation-append_left, IsPermutation-append_right, IsPermutation-cons, IsPermutation-middle, IsPermutation-refl, IsPermutation-trans}
use Rattle.table_schema.specs.sqlite_value.specs.declared.value.Value.TheVariants.{Int}
use Rattle.table_schema.specs.sqlite_value.specs.declared.keys.Collation.TheVariants.{Binary}
use Rattle.table_schema.specs.sqlite_value.specs.Order.{Row, column}
use Rattle.table_schema.specs.sqlite_schema.specs.Rules.{equal}
use Rattle.table_schema.specs.sqlite_rules.specs.Lists.{Has}
use Rattle.crush_pool.specs.declared.exceptions.Pair.{Pair}
use Rattle.tenant_state.specs.Ordered.{is_ascending, with_element, without}
use Rattle.tenant_state.specs.State.{TenantPool, can_have, is_lower_pool, with_pairs}
use Rattle.tenant_tables.proofs.RowFacts.{equal_itself}
use Rattle.tenant_tables.specs.Change.{without_key}
use Rattle.table_schema.specs.Values.{exception_row}
use Rattle.table_schema.specs.declared.values.ExceptionRow.{ExceptionRow}
use Rattle.tenant_tables.proofs.Keyed.{all_above, below, differs, equals, goes, is_own, other_number, stays, swap}
use Rattle.tenant_tables.proofs.Orders.{tail_up}
use Rattle.tenant_tables.proofs.Reading.{first}
use Rattle.tenant_tables.specs.Commits.{with_count}
use Rattle.tenant_tables.specs.Rows.{row_of_pool, row_of_pair, rows_of_pairs, rows_of_exceptions}

abbrev id_of : TenantPool → ℕ
id_of p = p.parts.id

abbrev keeps_key : ℕ → Row → Bool
keeps_key n row = not (equal Binary (column row 0) (Int (pos n)))

-- the next pool has a higher id
next_id : (p q : TenantPool) (qs : List TenantPool) → is_ascending is_lower_pool (p ∷ q ∷ qs) ≡ true → p.parts.id < q.parts.id
next_id p q qs up = below p.parts.id q.parts.id (first (is_lower_pool p q) (is_ascending is_lower_pool (q ∷ qs)) up)

-- ---- the pairs of one pool

pairs_go : (n place : ℕ) (pairs : List Pair) → without_key (pos n) (rows_of_pairs n place pairs) ≡ []
pairs_go n place [] = refl
pairs_go n place (p ∷ pairs) =
    goes (keeps_key n) (row_of_pair n place p) (rows_of_pairs n (place + 1) pairs) (ap not (equal_itself (pos n))) ∙ pairs_go n (place + 1) pairs

pairs_stay : (n id place : ℕ) (pairs : List Pair) → (id ≡ n → ⊥) → without_key (pos n) (rows_of_pairs id place pairs) ≡ rows_of_pairs id place pairs
pairs_stay n id place [] apart = refl
pairs_stay n id place (p ∷ pairs) apart =
    stays (keeps_key n) (row_of_pair id place p) (rows_of_pairs id (place + 1) pairs) (ap not (other_number id n apart))
    ∙ ap (λ l. row_of_pair id place p ∷ l) (pairs_stay n id (place + 1) pairs apart)

-- ---- the pairs of all pools

-- of the first pool, and of the others
parted : (n : ℕ) (p : TenantPool) (ps : List TenantPool) (own others : List Row) → without_key (pos n) (rows_of_pairs p.parts.id 0 p.pairs) ≡ own → without_key (pos n) (rows_of_exceptions ps) ≡ others
    → without_key (pos n) (rows_of_exceptions (p ∷ ps)) ≡ own ++ others
parted n p ps own others is are =
    filter-append (keeps_key n) (rows_of_pairs p.parts.id 0 p.pairs) (rows_of_exceptions ps) ∙ ap (λ l. l ++ without_key (pos n) (rows_of_exceptions ps)) is ∙ ap (λ l. own ++ l) are

own_go : (n : ℕ) (p : TenantPool) → p.parts.id ≡ n → without_key (pos n) (rows_of_pairs p.parts.id 0 p.pairs) ≡ []
own_go n p is = ap (λ k. without_key (pos n) (rows_of_pairs k 0 p.pairs)) is ∙ pairs_go n 0 p.pairs

-- what follows a number is above it
pub exceptions_above : (n : ℕ) (p : TenantPool) (ps : List TenantPool) → n ≤ p.parts.id → is_ascending is_lower_pool (p ∷ ps) ≡ true → without_key (pos n) (rows_of_exceptions ps) ≡ rows_of_exceptions ps
exceptions_above n p [] low up = refl
exceptions_above n p (q ∷ qs) low up =
    let next = next_id p q qs up in
    parted n q qs (rows_of_pairs q.parts.id 0 q.pairs) (rows_of_exceptions qs) (pairs_stay n q.parts.id 0 q.pairs (λ same. absurd (omega (arith, low, next, same))))
    (exceptions_above n q qs (omega (arith, low, next)) (tail_up p (q ∷ qs) up))

-- the rows without those of the pool that has a number
pub exceptions_taken : (n : ℕ) (ps : List TenantPool) → is_ascending is_lower_pool ps ≡ true → without_key (pos n) (rows_of_exceptions ps) ≡ rows_of_exceptions (without id_of n ps)
exceptions_taken n [] up = refl
exceptions_taken n (p ∷ ps) up = left (p.parts.id == n) refl (exceptions_taken n ps (tail_up p ps up))
  where
    left : (b : Bool) → (p.parts.id == n) ≡ b → without_key (pos n) (rows_of_exceptions ps) ≡ rows_of_exceptions (without id_of n ps)
        → without_key (pos n) (rows_of_exceptions (p ∷ ps)) ≡ rows_of_exceptions (if b then ps else p ∷ without id_of n ps)
    left true same later =
        let is = equals p.parts.id n same in
        parted n p ps [] (rows_of_exceptions ps) (own_go n p is) (exceptions_above n p ps (omega (arith, is)) up)
    left false apart later =
        parted n p ps (rows_of_pairs p.parts.id 0 p.pairs) (rows_of_exceptions (without id_of n ps)) (pairs_stay n p.parts.id 0 p.pairs (differs p.parts.id n apart)) later

-- a new pool without pairs has none
pub exceptions_new : (new : TenantPool) → new.pairs ≡ [] → (t : TenantPool → Bool) → ((q : TenantPool) → t q ≡ false → q.parts.id ≡ new.parts.id → ⊥) → (ps : List TenantPool) → list_any t ps ≡ false
    → rows_of_exceptions ps ≡ rows_of_exceptions (with_element id_of new ps)
exceptions_new new none t apart [] other = sym (ap (λ l. rows_of_pairs new.parts.id 0 l ++ []) none)
exceptions_new new none t apart (p ∷ ps) other =
    let are = neither (t p) (list_any t ps) other in
    placed (nat_le new.parts.id p.parts.id) (p.parts.id == new.parts.id) refl (apart p are.0) (exceptions_new new none t apart ps are.1)
  where
    neither : (a b : Bool) → (a || b) ≡ false → (a ≡ false) × (b ≡ false)
    neither true b h = cc
    neither false b h = (refl, h)

    placed : (b c : Bool) → (p.parts.id == new.parts.id) ≡ c → (p.parts.id ≡ new.parts.id → ⊥) → rows_of_exceptions ps ≡ rows_of_exceptions (with_element id_of new ps)
        → rows_of_exceptions (p ∷ ps) ≡ rows_of_exceptions (if b then (if c then new ∷ ps else new ∷ p ∷ ps) else p ∷ with_element id_of new ps)
    placed true true same other later = absurd (other (equals p.parts.id new.parts.id same))
    placed true false same other later = sym (ap (λ l. rows_of_pairs new.parts.id 0 l ++ rows_of_exceptions (p ∷ ps)) none)
    placed false c same other later = ap (λ l. rows_of_pairs p.parts.id 0 p.pairs ++ l) later

-- lists change places
exchanged : (new own others rest : List Row) → IsPermutation (new ++ others) rest → IsPermutation (new ++ (own ++ others)) (own ++ rest)
exchanged new own others rest same =
    let turned : IsPermutation (new ++ own ++ others) (own ++ new ++ others) = IsPermutation-append_left others (new ++ own) (own ++ new) (IsPermutation-append_comm new own) in
    let paired : IsPermutation (new ++ (own ++ others)) (own ++ (new ++ others)) =
    subst (λ l. IsPermutation l (own ++ (new ++ others))) (append_assoc new own others) (subst (IsPermutation (new ++ own ++ others)) (append_assoc own new others) turned) in
    IsPermutation-trans _ _ _ paired (IsPermutation-append_right own (new ++ others) rest same)

-- other pairs in place of those of the pool that has a number
pub exceptions_put : (n : ℕ) (pairs : List Pair) (ps : List TenantPool) → is_ascending is_lower_pool ps ≡ true → can_have pairs (find (λ p. p.parts.id == n) ps) ≡ true
    → IsPermutation (rows_of_pairs n 0 pairs ++ without_key (pos n) (rows_of_exceptions ps)) (rows_of_exceptions (with_pairs n pairs ps))
exceptions_put n pairs [] up can = absurd cc
exceptions_put n pairs (p ∷ ps) up can = placed (p.parts.id == n) refl (λ later. exceptions_put n pairs ps (tail_up p ps up) later)
  where
    placed : (b : Bool) → (p.parts.id == n) ≡ b
        → (can_have pairs (find (λ p. p.parts.id == n) ps) ≡ true → IsPermutation (rows_of_pairs n 0 pairs ++ without_key (pos n) (rows_of_exceptions ps)) (rows_of_exceptions (with_pairs n pairs ps)))
        → IsPermutation (rows_of_pairs n 0 pairs ++ without_key (pos n) (rows_of_exceptions (p ∷ ps))) (rows_of_exceptions (if b then record p { pairs = pairs } ∷ ps else p ∷ with_pairs n pairs ps))
    placed true same later =
        let is = equals p.parts.id n same in
        let gone = parted n p ps [] (rows_of_exceptions ps) (own_go n p is) (exceptions_above n p ps (omega (arith, is)) up) in
        let these : rows_of_pairs n 0 pairs ++ without_key (pos n) (rows_of_exceptions (p ∷ ps)) ≡ rows_of_pairs p.parts.id 0 pairs ++ rows_of_exceptions ps =
        ap (λ l. rows_of_pairs n 0 pairs ++ l) gone ∙ ap (λ k. rows_of_pairs k 0 pairs ++ rows_of_exceptions ps) (sym is) in
        subst (IsPermutation (rows_of_pairs n 0 pairs ++ without_key (pos n) (rows_of_exceptions (p ∷ ps)))) these (IsPermutation-refl _)
    placed false apart later =
        let kept = parted n p ps (rows_of_pairs p.parts.id 0 p.pairs) (without_key (pos n) (rows_of_exceptions ps)) (pairs_stay n p.parts.id 0 p.pairs (differs p.parts.id n apart)) refl in
        subst (λ l. IsPermutation (rows_of_pairs n 0 pairs ++ l) (rows_of_exceptions (p ∷ with_pairs n pairs ps))) (sym kept)
        (exchanged (rows_of_pairs n 0 pairs) (rows_of_pairs p.parts.id 0 p.pairs) (without_key (pos n) (rows_of_exceptions ps)) (rows_of_exceptions (with_pairs n pairs ps)) (later (rw apart at can)))

-- ---- the rows of pools

counts : (n count : ℤ) (row : Row) → equal Binary (column row 0) (Int n) ≡ true → with_count n count row ≡ take 8 row ++ Int count ∷ []
counts n count row same = rw same refl

leaves : (n count : ℤ) (row : Row) → equal Binary (column row 0) (Int n) ≡ false → with_count n count row ≡ row
leaves n count row other = rw other refl

-- those that follow a number stay
counts_above : (n : ℕ) (count : ℤ) (p : TenantPool) (ps : List TenantPool) → n ≤ p.parts.id → is_ascending is_lower_pool (p ∷ ps) ≡ true → map (with_count (pos n) count) (map row_of_pool ps) ≡ map row_of_pool ps
counts_above n count p [] low up = refl
counts_above n count p (q ∷ qs) low up =
    let next = next_id p q qs up in
    ap (λ r. r ∷ map (with_count (pos n) count) (map row_of_pool qs)) (leaves (pos n) count (row_of_pool q) (other_number q.parts.id n (λ same. absurd (omega (arith, low, next, same)))))
    ∙ ap (λ l. row_of_pool q ∷ l) (counts_above n count q qs (omega (arith, low, next)) (tail_up p (q ∷ qs) up))

own_key : (n : ℕ) (p : TenantPool) → p.parts.id ≡ n → equal Binary (Int (pos p.parts.id)) (Int (pos n)) ≡ true
own_key n p is = ap (λ k. equal Binary (Int (pos k)) (Int (pos n))) is ∙ equal_itself (pos n)

-- the pool that has a number has another number of pairs
pub pools_put : (n : ℕ) (pairs : List Pair) (ps : List TenantPool) → is_ascending is_lower_pool ps ≡ true → map (with_count (pos n) (pos (length pairs))) (map row_of_pool ps) ≡ map row_of_pool (with_pairs n pairs ps)
pools_put n pairs [] up = refl
pools_put n pairs (p ∷ ps) up = placed (p.parts.id == n) refl (pools_put n pairs ps (tail_up p ps up))
  where
    placed : (b : Bool) → (p.parts.id == n) ≡ b → map (with_count (pos n) (pos (length pairs))) (map row_of_pool ps) ≡ map row_of_pool (with_pairs n pairs ps)
        → map (with_count (pos n) (pos (length pairs))) (map row_of_pool (p ∷ ps)) ≡ map row_of_pool (if b then record p { pairs = pairs } ∷ ps else p ∷ with_pairs n pairs ps)
    placed true same later =
        let is = equals p.parts.id n same in
        ap (λ r. r ∷ map (with_count (pos n) (pos (length pairs))) (map row_of_pool ps)) (counts (pos n) (pos (length pairs)) (row_of_pool p) (own_key n p is))
        ∙ ap (λ l. row_of_pool (record p { pairs = pairs }) ∷ l) (counts_above n (pos (length pairs)) p ps (omega (arith, is)) up)
    placed false apart later =
        ap (λ r. r ∷ map (with_count (pos n) (pos (length pairs))) (map row_of_pool ps)) (leaves (pos n) (pos (length pairs)) (row_of_pool p) (other_number p.parts.id n (differs p.parts.id n apart)))
        ∙ ap (λ l. row_of_pool p ∷ l) later

int_number : (m n : ℕ) → Int (pos m) ≡ Int (pos n) → m ≡ n
int_number m n h = cc

-- a row that follows a pool has a higher id
above_it : (n : ℕ) (p : TenantPool) (ps : List TenantPool) (row : Row) → n ≤ p.parts.id → is_ascending is_lower_pool (p ∷ ps) ≡ true → Has (map row_of_pool ps) row → column row 0 ≡ Int (pos n) → ⊥
above_it n p [] row low up has key = has
above_it n p (q ∷ qs) row low up (inl is) key =
    let same = int_number q.parts.id n (sym (ap (λ r. column r 0) is) ∙ key) in
    let next = next_id p q qs up in absurd (omega (arith, low, next, same))
above_it n p (q ∷ qs) row low up (inr has) key =
    let next = next_id p q qs up in above_it n q qs row (omega (arith, low, next)) (tail_up p (q ∷ qs) up) has key

-- the row that is written in place of the one with a number
pub row_put : (n : ℕ) (count : ℤ) (ps : List TenantPool) (row : Row) → is_ascending is_lower_pool ps ≡ true → Has (map row_of_pool ps) row → column row 0 ≡ Int (pos n)
    → IsPermutation ((take 8 row ++ Int count ∷ []) ∷ without_key (pos n) (map row_of_pool ps)) (map (with_count (pos n) count) (map row_of_pool ps))
row_put n count [] row up has key = absurd has
row_put n count (p ∷ ps) row up (inl is) key =
    let same = int_number p.parts.id n (sym (ap (λ r. column r 0) is) ∙ key) in
    let new = counts (pos n) count (row_of_pool p) (own_key n p same) in
    let left : without_key (pos n) (map row_of_pool (p ∷ ps)) ≡ map row_of_pool ps =
    goes (keeps_key n) (row_of_pool p) (map row_of_pool ps) (is_own id_of row_of_pool (λ q. refl) n p same) ∙ all_above id_of row_of_pool (λ q. refl) n p ps (omega (arith, same)) up in
    let all : (take 8 row ++ Int count ∷ []) ∷ without_key (pos n) (map row_of_pool (p ∷ ps)) ≡ map (with_count (pos n) count) (map row_of_pool (p ∷ ps)) =
    ap (λ l. (take 8 row ++ Int count ∷ []) ∷ l) (left ∙ sym (counts_above n count p ps (omega (arith, same)) up)) ∙ ap (λ r. r ∷ map (with_count (pos n) count) (map row_of_pool ps)) (ap (λ r. take 8 r ++ Int count ∷ []) is ∙ sym new) in
    subst (IsPermutation ((take 8 row ++ Int count ∷ []) ∷ without_key (pos n) (map row_of_pool (p ∷ ps)))) all (IsPermutation-refl _)
row_put n count (p ∷ ps) row up (inr has) key =
    placed (p.parts.id == n) refl (row_put n count ps row (tail_up p ps up) has key)
  where
    new : Row
    new = take 8 row ++ Int count ∷ []

    placed : (b : Bool) → (p.parts.id == n) ≡ b → IsPermutation ((take 8 row ++ Int count ∷ []) ∷ without_key (pos n) (map row_of_pool ps)) (map (with_count (pos n) count) (map row_of_pool ps))
        → IsPermutation ((take 8 row ++ Int count ∷ []) ∷ without_key (pos n) (map row_of_pool (p ∷ ps))) (map (with_count (pos n) count) (map row_of_pool (p ∷ ps)))
    placed true same later = absurd (above_it n p ps row (omega (arith, equals p.parts.id n same)) up has key)
    placed false apart later =
        let other = other_number p.parts.id n (differs p.parts.id n apart) in
        let kept = stays (keeps_key n) (row_of_pool p) (map row_of_pool ps) (ap not other) in
        let stay = leaves (pos n) count (row_of_pool p) other in
        subst (λ l. IsPermutation ((take 8 row ++ Int count ∷ []) ∷ l) (map (with_count (pos n) count) (map row_of_pool (p ∷ ps)))) (sym kept)
        (subst (λ r. IsPermutation ((take 8 row ++ Int count ∷ []) ∷ row_of_pool p ∷ without_key (pos n) (map row_of_pool ps)) (r ∷ map (with_count (pos n) count) (map row_of_pool ps))) (sym stay)
        (IsPermutation-trans _ _ _ (swap (take 8 row ++ Int count ∷ []) (row_of_pool p) (without_key (pos n) (map row_of_pool ps))) (IsPermutation-cons (row_of_pool p) _ _ later)))

-- a pool that can have pairs has its row
pub row_there : (n : ℕ) (pairs : List Pair) (ps : List TenantPool) → can_have pairs (find (λ p. p.parts.id == n) ps) ≡ true → (row : Row) × Has (map row_of_pool ps) row × (column row 0 ≡ Int (pos n))
row_there n pairs [] can = absurd cc
row_there n pairs (p ∷ ps) can = here (p.parts.id == n) refl (λ later. row_there n pairs ps later)
  where
    here : (b : Bool) → (p.parts.id == n) ≡ b → (can_have pairs (find (λ p. p.parts.id == n) ps) ≡ true → (row : Row) × Has (map row_of_pool ps) row × (column row 0 ≡ Int (pos n)))
        → (row : Row) × Has (map row_of_pool (p ∷ ps)) row × (column row 0 ≡ Int (pos n))
    here true same later = (row_of_pool p, inl refl, ap (λ k. Int (pos k)) (equals p.parts.id n same))
    here false apart later = let it = later (rw apart at can) in (it.0, inr it.1, it.2)

-- rows that are added one after the other
pub rows_added : (es : List ExceptionRow) (rows : List Row) → IsPermutation (fold (λ earlier e. exception_row e ∷ earlier) rows es) (map exception_row es ++ rows)
rows_added [] rows = IsPermutation-refl _
rows_added (e ∷ es) rows =
    IsPermutation-trans _ _ _ (rows_added es (exception_row e ∷ rows)) (IsPermutation-middle (map exception_row es) (exception_row e) rows)
