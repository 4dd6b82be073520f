-- Which groups have a row in `moves`, and which stand in a list of groups that pass a test.
use Rattle.std.proofs.Common.{◌≡◌, ℕ, ℤ, zero, suc, ◌+◌, ◌<◌, ◌≤◌, ◌==◌, ◌||◌, Bool, true, false, not, cond, if◌then◌else◌, List, [], ◌∷◌, map, filter, Option, Some, None, option_map, option_and_then, refl, ap, sym, ◌∙◌, arith, ◌⊎◌, inl, inr}
use Rattle.std.specs.List.{range_with_len, cons_option}
use Rattle.std.proofs.lemmas.Bool.{and_parts, and_from, false≢true, cases_eq, cases_lt, eq-eqb, ne_eqb}
use Rattle.std.proofs.lemmas.Bool.Decides.{Decides-int_eq, nat_tests}
use Rattle.crush_map.specs.Faults.{has_number}
use Rattle.crush_choose.specs.Marks.{Slot}
use Rattle.crush_map.specs.Map.{Map}
use Rattle.crush_map.specs.declared.draft.Rule.{Rule}
use Rattle.crush_bucket.specs.Tables.{tables_of}
use Rattle.crush_choose.specs.Rules.{rule_answer}
use Rattle.crush_choose.specs.Weights.{weight_at, weights_of}
use Rattle.crush_pool.specs.Placements.{placed, rule_numbered}
use Rattle.crush_pool.specs.Pools.{seed_of}
use Rattle.crush_pool.specs.States.{reweights}
use Rattle.crush_pool.specs.declared.exceptions.Pair.{Pair}
use Rattle.crush_pool.specs.declared.pool.PoolParts.{PoolParts}
use Rattle.crush_pool.specs.declared.states.DeviceState.{DeviceState}
use Rattle.crush_report.specs.Reports.{groups, up_by, raw_by, moves_by, moves}
use Rattle.crush_report.specs.Moves.{same_slot, same_slots, gained, move_rows}
use Rattle.crush_report.specs.declared.rows.MoveRow.{MoveRow}

-- ---- lists that are the same

slot_is : (a b : Slot) → same_slot a b ≡ true → a ≡ b
slot_is None None e = refl
slot_is None (Some b) e = absurd (false≢true e)
slot_is (Some a) None e = absurd (false≢true e)
slot_is (Some a) (Some b) e = let same : b.0 ≡ a.0 = (Decides-int_eq b.0 a.0).0 e in ap (λ (id : ℤ). Some (record { 0 = id })) (sym same)

slot_itself : (a : Slot) → same_slot a a ≡ true
slot_itself None = refl
slot_itself (Some a) = (Decides-int_eq a.0 a.0).1 refl

pub slots_are : (first second : List Slot) → same_slots first second ≡ true → first ≡ second
slots_are [] [] e = refl
slots_are [] (b ∷ bs) e = absurd (false≢true e)
slots_are (a ∷ rest) [] e = absurd (false≢true e)
slots_are (a ∷ rest) (b ∷ bs) e =
    let parts = and_parts (same_slot a b) (same_slots rest bs) e in
    let first : a ≡ b = slot_is a b parts.0 in
    let others : rest ≡ bs = slots_are rest bs parts.1 in
    rw (first, others) refl

itself : (slots : List Slot) → same_slots slots slots ≡ true
itself [] = refl
itself (slot ∷ slots) = and_from (same_slot slot slot) (same_slots slots slots) (slot_itself slot) (itself slots)

pub are_slots : (first second : List Slot) → first ≡ second → same_slots first second ≡ true
are_slots first second e = rw e (itself second)

-- ---- groups with a row

abbrev groups_in : List MoveRow → List ℕ
groups_in rows = map (λ row. row.group) rows

-- the row of a group, if its lists differ
abbrev row_if : Bool → ℕ → List Slot → List Slot → Option MoveRow
row_if same group old new = if same then None else Some (record { group = group; gained = gained old new; old = old; new = new })

skip_head : (same : Bool) (a group : ℕ) (old new : List Slot) (rows : List MoveRow) → (a == group) ≡ false
    → has_number (groups_in (cons_option (row_if same a old new) rows)) group ≡ has_number (groups_in rows) group
skip_head true a group old new rows other = refl
skip_head false a group old new rows other = rw other refl

take_head : (same : Bool) (a group : ℕ) (old new : List Slot) (rows : List MoveRow) → (a == group) ≡ true → has_number (groups_in rows) group ≡ false
    → has_number (groups_in (cons_option (row_if same a old new) rows)) group ≡ not same
take_head true a group old new rows one none = none
take_head false a group old new rows one none = rw one refl

-- groups before the first have no row
none_below : (old new : ℕ → List Slot) (a n group : ℕ) → group < a → has_number (groups_in (move_rows old new (range_with_len a n))) group ≡ false
none_below old new a zero group lt = refl
none_below old new a (suc n) group lt =
    skip_head (same_slots (old a) (new a)) a group (old a) (new a) (move_rows old new (range_with_len (a + 1) n)) (ne_eqb a group (λ e. omega (arith, lt, e)))
    ∙ none_below old new (a + 1) n group (omega (arith, lt))

rows_from : (old new : ℕ → List Slot) (a n group : ℕ) → a ≤ group → group < a + n
    → has_number (groups_in (move_rows old new (range_with_len a n))) group ≡ not (same_slots (old group) (new group))
rows_from old new a zero group le lt = absurd (omega (arith, le, lt))
rows_from old new a (suc n) group le lt = elim (cases_eq a group) [
  | inl e ↦ (let head = take_head (same_slots (old a) (new a)) a group (old a) (new a) (move_rows old new (range_with_len (a + 1) n)) (eq-eqb a group e)
      (none_below old new (a + 1) n group (omega (arith, e))) in
      head ∙ rw e refl)
  | inr other ↦ (skip_head (same_slots (old a) (new a)) a group (old a) (new a) (move_rows old new (range_with_len (a + 1) n)) (ne_eqb a group other)
      ∙ rows_from old new (a + 1) n group (omega (arith, le, other)) (omega (arith, lt)))
]

pub row_where_moved : (old new : ℕ → List Slot) (n group : ℕ) → group < n
    → has_number (map (λ row. row.group) (move_rows old new (range_with_len 0 n))) group ≡ not (same_slots (old group) (new group))
row_where_moved old new n group lt = rows_from old new 0 n group (omega arith) (omega (arith, lt))

pub none_moves : (up : ℕ → List Slot) (groups : List ℕ) → move_rows up up groups ≡ []
none_moves up [] = refl
none_moves up (group ∷ groups) = rw (itself (up group)) (none_moves up groups)

-- ---- groups that pass a test

either : (b c : Bool) → c ≡ true → (b || c) ≡ true
either true c e = refl
either false c e = e

kept_head : (b : Bool) (a group : ℕ) (rest : List ℕ) → (a == group) ≡ true → b ≡ true → has_number (cond b (a ∷ rest) rest) group ≡ true
kept_head true a group rest one e = rw one refl
kept_head false a group rest one e = absurd (false≢true e)

behind_head : (b : Bool) (a group : ℕ) (rest : List ℕ) → has_number rest group ≡ true → has_number (cond b (a ∷ rest) rest) group ≡ true
behind_head true a group rest e = either (a == group) (has_number rest group) e
behind_head false a group rest e = e

passes_from : (test : ℕ → Bool) (a n group : ℕ) → a ≤ group → group < a + n → test group ≡ true → has_number (filter test (range_with_len a n)) group ≡ true
passes_from test a zero group le lt e = absurd (omega (arith, le, lt))
passes_from test a (suc n) group le lt e = elim (cases_eq a group) [
  | inl same ↦ kept_head (test a) a group (filter test (range_with_len (a + 1) n)) (eq-eqb a group same) (ap test same ∙ e)
  | inr other ↦ behind_head (test a) a group (filter test (range_with_len (a + 1) n)) (passes_from test (a + 1) n group (omega (arith, le, other)) (omega (arith, lt)) e)
]

pub passes : (test : ℕ → Bool) (n group : ℕ) → group < n → test group ≡ true → has_number (filter test (range_with_len 0 n)) group ≡ true
passes test n group lt e = passes_from test 0 n group (omega arith) (omega (arith, lt)) e

-- ---- from a map to itself

moves_itself : (m : Map) (states : List DeviceState) (p : PoolParts) (pairs : List Pair) (rows : List MoveRow) (found : Option Rule)
    → option_and_then (λ first. option_map (moves_by m m states p pairs first) found) found ≡ Some rows → rows ≡ []
moves_itself m states p pairs rows None e = let never : None ≡ Some rows = e in absurd cc
moves_itself m states p pairs rows (Some rule) e =
    let is : moves_by m m states p pairs rule rule ≡ rows = cc in
    sym is ∙ none_moves (up_by m states p pairs rule) (groups p)

pub no_moves : (m : Map) (states : List DeviceState) (p : PoolParts) (pairs : List Pair) (rows : List MoveRow) → moves m m states p pairs ≡ Some rows → rows ≡ []
no_moves m states p pairs rows e = moves_itself m states p pairs rows (rule_numbered m p.rule) e

-- ---- the raw list of a group

pub raw_is : (m : Map) (states : List DeviceState) (p : PoolParts) (pairs : List Pair) (rule : Rule) (group : ℕ)
    → raw_by m states p pairs rule group ≡ rule_answer (tables_of m) (weights_of (reweights states)) rule.steps (seed_of p group) p.size
unfolding placed
raw_is m states p pairs rule group = refl

-- ---- lowered devices

pub at_first : (a b : Bool) → a ≡ true → (a || b) ≡ true
at_first true b e = refl
at_first false b e = absurd (false≢true e)

pub at_second : (a b : Bool) → b ≡ true → (a || b) ≡ true
at_second true b e = refl
at_second false b e = e

same_number : (n m : ℕ) → (n == m) ≡ true → n ≡ m
same_number n m e = grind (arith, nat_tests, e)

-- among some devices there is one whose second weight is lower, or their weights are the same
pub lowered_or_same : (first second devices : List ℕ) → ((device : ℕ) → weight_at second device ≤ weight_at first device)
    → ((device : ℕ) × (weight_at second device < weight_at first device) × (has_number devices device ≡ true))
    ⊎ ((device : ℕ) → has_number devices device ≡ true → weight_at second device ≡ weight_at first device)
lowered_or_same first second [] lower = inr (λ device there. absurd (false≢true there))
lowered_or_same first second (d ∷ devices) lower = elim (cases_lt (weight_at second d) (weight_at first d)) [
  | inl less ↦ inl (d, less, at_first (d == d) (has_number devices d) (eq-eqb d d refl))
  | inr same ↦ elim (lowered_or_same first second devices lower) [
    | inl found ↦ inl (found.0, found.1, at_second (d == found.0) (has_number devices found.0) found.2)
    | inr others ↦ inr (λ device there. by device (d == device) refl there same (others device))
  ]
]
  where
    by : (device : ℕ) (b : Bool) → (d == device) ≡ b → (b || has_number devices device) ≡ true → weight_at first d ≤ weight_at second d
        → (has_number devices device ≡ true → weight_at second device ≡ weight_at first device) → weight_at second device ≡ weight_at first device
    by device true is there same rest =
        let own : weight_at second d ≡ weight_at first d = omega (arith, same, lower d) in
        rw (same_number d device is) at own
    by device false is there same rest = rest there
