-- Counts of up lists stay far below 2^32: there are at most GROUP_LIMIT
-- lists of at most SIZE_LIMIT slots.
use Rattle.std.proofs.Common.{◌≡◌, ℕ, zero, suc, ◌+◌, ◌*◌, ◌^◌, ◌<◌, ◌≤◌, max, nat_lt, Bool, true, false, List, [], ◌∷◌, length, map, take, get_or, is_some, Less, Equal, Greater, nat_cmp, refl, ap, arith, length-append, inl, inr}
use Rattle.std.specs.Prelude.{◌==◌, cond}
use Rattle.std.specs.Ordering.{is_lt, ord_max}
use Rattle.std.specs.List.{range_with_len}
use Rattle.std.proofs.lemmas.Bool.Decides.{nat_tests}
use Rattle.std.proofs.Math.Nat.{le-max_left, le-max_right}
use Rattle.crush_map.specs.declared.draft.Device.{Device}
use Rattle.std.proofs.lemmas.Bool.{cases_lt}
use Rattle.std.proofs.lemmas.List.{get_or_past, take_more}
use Rattle.std.proofs.lemmas.List.Recursion.{max_push}
use Rattle.crush_choose.specs.Firstn.{has, slot_has}
use Rattle.crush_choose.specs.Marks.{Slot}
use Rattle.crush_pool.specs.Placements.{primary_of}
use Rattle.crush_report.proofs.Short.{filter_few}
use Rattle.crush_report.specs.Private.Tallies.{count_at, HasRoom, TallyView, IsTally, id_bound, row_by}
use Rattle.crush_pool.specs.Exceptions.{device_item}
use Rattle.crush_report.specs.Usage.{all_entries, entries_of, usage_row, usage_rows}
use Rattle.crush_report.specs.declared.rows.UsageRow.{UsageRow}
use Rattle.crush_choose.specs.declared.limits.TheConstants.{SIZE_LIMIT}
use Rattle.crush_pool.specs.declared.limits.TheConstants.{GROUP_LIMIT}

-- the entries of n lists of at most SIZE_LIMIT slots
pub entries_few : (up : ℕ → List Slot) (a n : ℕ) → ((group : ℕ) → length (up group) ≤ SIZE_LIMIT) → length (all_entries (map up (range_with_len a n))) ≤ SIZE_LIMIT * n
entries_few up a zero short = omega arith
entries_few up a (suc n) short =
    omega (arith, short a, entries_few up (a + 1) n short, length-append (up a) (all_entries (map up (range_with_len (a + 1) n))))

pub entries_below : (id : ℕ) (ups : List (List Slot)) → entries_of id ups ≤ length (all_entries ups)
entries_below id ups = filter_few (slot_has (device_item id)) (all_entries ups)

-- a bound of the counts of the devices is one of all counts
at_most : (counts : List ℕ) (bound most : ℕ) → length counts ≡ bound → ((id : ℕ) → id < bound → count_at counts id ≤ most) → (id : ℕ) → count_at counts id ≤ most
at_most counts bound most len below id = elim (cases_lt id bound) [
  | inl lt ↦ below id lt
  | inr ge ↦ (let past : length counts ≤ id = rw len ge in let none : count_at counts id ≡ 0 = get_or_past counts id 0 past in omega (arith, none))
]

pub entries_most : (bound n : ℕ) (ups : List (List Slot)) (t : TallyView) → IsTally bound ups t → length (all_entries ups) ≤ SIZE_LIMIT * n → (id : ℕ) → count_at t.entries id ≤ SIZE_LIMIT * n
entries_most bound n ups t is few = at_most t.entries bound (SIZE_LIMIT * n) is.entries_len (λ id lt. omega (arith, few, entries_below id ups, is.entries id lt))

groups_most : (bound n : ℕ) (ups : List (List Slot)) (t : TallyView) → IsTally bound ups t → length ups ≤ n → (id : ℕ) → count_at t.groups id ≤ n
groups_most bound n ups t is few =
    at_most t.groups bound n is.groups_len (λ id lt. omega (arith, few, filter_few (λ up. has up (device_item id)) ups, is.groups id lt))

primaries_most : (bound n : ℕ) (ups : List (List Slot)) (t : TallyView) → IsTally bound ups t → length ups ≤ n → (id : ℕ) → count_at t.primaries id ≤ n
primaries_most bound n ups t is few =
    at_most t.primaries bound n is.primaries_len (λ id lt. omega (arith, few, filter_few (λ up. slot_has (device_item id) (primary_of up)) ups, is.primaries id lt))

-- ---- room for one more list, after n of them

pub entries_room : (bound n : ℕ) (ups : List (List Slot)) (t : TallyView) → IsTally bound ups t → length (all_entries ups) ≤ SIZE_LIMIT * n → n ≤ GROUP_LIMIT → HasRoom t.entries SIZE_LIMIT
entries_room bound n ups t is few most id = omega (arith, most, entries_most bound n ups t is few id)

pub groups_room : (bound n : ℕ) (ups : List (List Slot)) (t : TallyView) → IsTally bound ups t → length ups ≤ n → n ≤ GROUP_LIMIT → HasRoom t.groups SIZE_LIMIT
groups_room bound n ups t is few most id = omega (arith, most, groups_most bound n ups t is few id)

pub primaries_room : (bound n : ℕ) (ups : List (List Slot)) (t : TallyView) → IsTally bound ups t → length ups ≤ n → n ≤ GROUP_LIMIT → HasRoom t.primaries SIZE_LIMIT
primaries_room bound n ups t is few most id = omega (arith, most, primaries_most bound n ups t is few id)

pub filled_room : (bound n : ℕ) (ups : List (List Slot)) (t : TallyView) → IsTally bound ups t → length (all_entries ups) ≤ SIZE_LIMIT * n → n ≤ GROUP_LIMIT → t.filled + SIZE_LIMIT < 2 ^ 32
filled_room bound n ups t is few most = omega (arith, few, most, filter_few is_some (all_entries ups), is.filled)

-- ---- rows

row_is : (bound : ℕ) (ups : List (List Slot)) (t : TallyView) (id : ℕ) → IsTally bound ups t → id < bound → row_by t id ≡ usage_row ups id
row_is bound ups t id is lt = rw (is.groups id lt, is.entries id lt, is.primaries id lt, is.filled) refl

-- what `max` answers
pub greater_of : (a b : ℕ) → ord_max nat_cmp a b ≡ max a b
greater_of a b = by (nat_lt b a) (b == a) refl
  where
    by : (t s : Bool) → nat_lt b a ≡ t → cond (is_lt (cond t Less (cond s Equal Greater))) a b ≡ max a b
    by true s h = (let lt : b < a = grind (arith, nat_tests, h) in omega (arith, lt))
    by false true h = (let le : a ≤ b = grind (arith, nat_tests, h) in omega (arith, le))
    by false false h = (let le : a ≤ b = grind (arith, nat_tests, h) in omega (arith, le))

pub bound_none : (devices : List Device) → 0 ≡ id_bound (take 0 devices)
unfolding id_bound
bound_none [] = refl
bound_none (d ∷ devices) = refl

-- the bound of one device more
pub bound_more : (devices : List Device) (i : ℕ) (d : Device) → i < length devices → d ≡ get_or devices i d → id_bound (take (i + 1) devices) ≡ max (id_bound (take i devices)) (d.id + 1)
unfolding id_bound
bound_more devices i d low is = rw (take_more devices i d low, ← is) (max_push id_bound (λ (e : Device). e.id + 1) refl (λ e es. refl) (take i devices) d)

rows_below : (bound : ℕ) (ups : List (List Slot)) (t : TallyView) (devices : List Device) → IsTally bound ups t → id_bound devices ≤ bound
    → map (λ d. row_by t d.id) devices ≡ usage_rows devices ups
unfolding id_bound
rows_below bound ups t [] is below = refl
rows_below bound ups t (d ∷ devices) is below =
    let here : d.id + 1 ≤ max (d.id + 1) (id_bound devices) = le-max_left (d.id + 1) (id_bound devices) in
    let others : id_bound devices ≤ max (d.id + 1) (id_bound devices) = le-max_right (d.id + 1) (id_bound devices) in
    let lt : d.id < bound = omega (arith, here, below) in
    let le : id_bound devices ≤ bound = omega (arith, others, below) in
    rw (row_is bound ups t d.id is lt) (ap (λ (rows : List UsageRow). usage_row ups d.id ∷ rows) (rows_below bound ups t devices is le))

-- the counts of devices give their rows
pub rows_are : (ups : List (List Slot)) (t : TallyView) (devices : List Device) → IsTally (id_bound devices) ups t → map (λ d. row_by t d.id) devices ≡ usage_rows devices ups
rows_are ups t devices is = rows_below (id_bound devices) ups t devices is (omega arith)
