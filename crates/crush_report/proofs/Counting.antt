-- The entries of an up list are counted one by one.
use Rattle.std.proofs.Common.{◌≡◌, ◌<◌, ◌≤◌, ℕ, pos, suc, ◌+◌, ◌-◌, ◌&&◌, ◌||◌, List, [], ◌∷◌, ◌++◌, length, take, drop, slice_index_or, filter, Bool, true, false, not, cond, if◌then◌else◌, is_some, Some, None, refl, ap, sym, ◌∙◌, arith, length-append, inl, inr}
use Rattle.std.specs.Ordering.{int_eq}
use Rattle.std.proofs.Math.Seq.{take-length}
use Rattle.std.proofs.lemmas.Bool.{cases_lt, false≢true}
use Rattle.std.proofs.lemmas.Bool.Decides.{Decides-int_eq}
use Rattle.std.proofs.lemmas.Grind.{flat_map-append}
use Rattle.std.proofs.lemmas.List.{append-nil, get_or_past}
use Rattle.std.proofs.lemmas.List.Elements.{filter-append}
use Rattle.crush_map.specs.crush_types.specs.declared.ItemId.{ItemId}
use Rattle.crush_choose.specs.Firstn.{has, slot_has}
use Rattle.crush_choose.specs.Marks.{Slot}
use Rattle.crush_pool.specs.Placements.{primary_of}
use Rattle.crush_report.proofs.Sums.{filter_if, one_if}
use Rattle.crush_report.specs.Private.Tallies.{HasRoom, HasSameLengths, IsCounting, IsTally, TallyView, count_at, entries_in, filled_in, groups_in, is_again, primaries_in}
use Rattle.crush_pool.specs.Exceptions.{device_item}
use Rattle.crush_report.specs.Usage.{all_entries}

-- ---- one entry of an up list

-- a device that is further on counts there
pub groups_up : (id : ℕ) (slot : Slot) (others : List Slot) → is_some slot ≡ true
    → groups_in id (slot ∷ others) ≡ (if not (is_again slot others) && slot_has (device_item id) slot then 1 else 0) + groups_in id others
groups_up id None others some = cc
groups_up id (Some item) others some = by (int_eq item.0 (pos id)) refl
  where
    later : (b : Bool) → 1 ≡ one_if (not b && true) + one_if b
    later true = refl
    later false = refl

    never : (b c : Bool) → one_if b ≡ one_if (not c && false) + one_if b
    never b true = omega arith
    never b false = omega arith

    by : (same : Bool) → int_eq item.0 (pos id) ≡ same
        → one_if (int_eq item.0 (pos id) || has others (device_item id)) ≡ one_if (not (has others item) && int_eq item.0 (pos id)) + one_if (has others (device_item id))
    by true is =
        let at : item.0 ≡ pos id = (Decides-int_eq item.0 (pos id)).0 is in
        let own : item ≡ device_item id = ap (λ n. record { 0 = n }) at in
        rw (is, own) (later (has others (device_item id)))
    by false is = rw is (never (has others (device_item id)) (has others item))

pub entries_up : (id : ℕ) (slot : Slot) (others : List Slot)
    → entries_in id (slot ∷ others) ≡ (if slot_has (device_item id) slot then 1 else 0) + entries_in id others
entries_up id slot others = filter_if (slot_has (device_item id) slot) slot (filter (slot_has (device_item id)) others)

-- the first is the primary
pub primaries_up : (first : Bool) (id : ℕ) (slot : Slot) (others : List Slot) → is_some slot ≡ true
    → primaries_in first id (slot ∷ others) ≡ (if first && slot_has (device_item id) slot then 1 else 0) + primaries_in false id others
primaries_up first id None others some = cc
primaries_up first id (Some item) others some = by first (int_eq item.0 (pos id)) (slot_has (device_item id) (primary_of others))
  where
    by : (b c d : Bool) → one_if (c && b) ≡ one_if (b && c) + one_if (d && false)
    by true true true = refl
    by true true false = refl
    by true false true = refl
    by true false false = refl
    by false true true = refl
    by false true false = refl
    by false false true = refl
    by false false false = refl

pub filled_up : (slot : Slot) (others : List Slot) → is_some slot ≡ true → filled_in (slot ∷ others) ≡ filled_in others + 1
filled_up slot others some = rw some (omega arith)

-- ---- one slot after the other

-- the slots after the first
abbrev pub after_first : List Slot → List Slot
after_first rest = take (length rest - 1) (drop 1 rest)

after_cons : (slot : Slot) (others : List Slot) → after_first (slot ∷ others) ≡ others
after_cons slot others =
    let e : suc (length others) - 1 ≡ length others = omega arith in
    rw e (take-length others)

pub after_len : (rest : List Slot) → 0 < length rest → length rest ≡ suc (length (after_first rest))
after_len [] some = absurd (omega arith)
after_len (slot ∷ others) some = rw (after_cons slot others) refl

-- counts of which each took at most one have room for one less
pub room_less : (before now : List ℕ) (n : ℕ) (took : ℕ → Bool) → HasRoom before (suc n) → length now ≡ length before
    → ((id : ℕ) → id < length before → count_at now id ≡ count_at before id + one_if (took id)) → HasRoom now n
room_less before now n took room len each id = elim (cases_lt id (length before)) [
  | inl lt ↦ omega (arith, room id, each id lt, one_most (took id))
  | inr ge ↦ (let past : length now ≤ id = rw len ge in let none : count_at now id ≡ 0 = get_or_past now id 0 past in omega (arith, none, room id))
]
  where
    one_most : (b : Bool) → one_if b ≤ 1
    one_most true = omega arith
    one_most false = omega arith

-- where an entry was counted, those after it are left
cons_counted : (up : List Slot) (first : Bool) (before was now : TallyView) (slot : Slot) (others : List Slot)
    → is_some slot ≡ true → HasSameLengths was now
    → ((id : ℕ) → id < length was.groups → count_at now.groups id ≡ count_at was.groups id + one_if (not (is_again slot others) && slot_has (device_item id) slot))
    → ((id : ℕ) → id < length was.entries → count_at now.entries id ≡ count_at was.entries id + one_if (slot_has (device_item id) slot))
    → ((id : ℕ) → id < length was.primaries → count_at now.primaries id ≡ count_at was.primaries id + one_if (first && slot_has (device_item id) slot))
    → now.filled ≡ was.filled + 1
    → IsCounting up first before (slot ∷ others) was → IsCounting up false before others now
cons_counted up first before was now slot others some lens groups entries primaries filled is = record {
  lens = record { groups = lens.groups ∙ is.lens.groups; entries = lens.entries ∙ is.lens.entries; primaries = lens.primaries ∙ is.lens.primaries };
  groups = λ id lt. omega (arith, is.groups id lt, groups id (rw is.lens.groups lt), groups_up id slot others some);
  entries = λ id lt. omega (arith, is.entries id lt, entries id (rw is.lens.entries lt), entries_up id slot others);
  primaries = λ id lt. omega (arith, is.primaries id lt, primaries id (rw is.lens.primaries lt), primaries_up first id slot others some);
  filled = omega (arith, is.filled, filled, filled_up slot others some);
}

pub entry_counted : (up : List Slot) (first : Bool) (before was now : TallyView) (rest : List Slot) → 0 < length rest
    → is_some (slice_index_or rest 0 None) ≡ true → HasSameLengths was now
    → ((id : ℕ) → id < length was.groups → count_at now.groups id ≡ count_at was.groups id + one_if (not (is_again (slice_index_or rest 0 None) (after_first rest)) && slot_has (device_item id) (slice_index_or rest 0 None)))
    → ((id : ℕ) → id < length was.entries → count_at now.entries id ≡ count_at was.entries id + one_if (slot_has (device_item id) (slice_index_or rest 0 None)))
    → ((id : ℕ) → id < length was.primaries → count_at now.primaries id ≡ count_at was.primaries id + one_if (first && slot_has (device_item id) (slice_index_or rest 0 None)))
    → now.filled ≡ was.filled + 1
    → IsCounting up first before rest was → IsCounting up false before (after_first rest) now
entry_counted up first before was now [] long some lens groups entries primaries filled is = absurd (omega arith)
entry_counted up first before was now (slot ∷ others) long some lens groups entries primaries filled is =
    rw (after_cons slot others) (cons_counted up first before was now slot others some lens (rw (after_cons slot others) at groups) entries primaries filled is)

-- an entry that is none counts nowhere
pub none_counted : (up : List Slot) (first : Bool) (before now : TallyView) (rest : List Slot) → 0 < length rest → is_some (slice_index_or rest 0 None) ≡ false
    → IsCounting up first before rest now → IsCounting up first before (after_first rest) now
none_counted up first before now [] long none is = absurd (omega arith)
none_counted up first before now (None ∷ others) long none is =
    rw (after_cons None others) (record { lens = is.lens; groups = is.groups; entries = is.entries; primaries = is.primaries; filled = is.filled })
none_counted up first before now (Some item ∷ others) long none is = absurd (false≢true (sym none))

-- where nothing is left, all is counted, with or without an entry
pub all_counted : (up : List Slot) (first : Bool) (before now : TallyView) (rest : List Slot) → length rest ≡ 0 → IsCounting up first before rest now → IsCounting up true before [] now
all_counted up first before now [] none is = record { lens = is.lens; groups = is.groups; entries = is.entries; primaries = is.primaries; filled = is.filled }
all_counted up first before now (slot ∷ others) none is = absurd (omega arith)

-- ---- one more list

length_if : {X : Type 0} (b : Bool) (x : X) → length (cond b (x ∷ []) []) ≡ one_if b
length_if true x = refl
length_if false x = refl

passes_more : {X : Type 0} (p : X → Bool) (xs : List X) (x : X) → length (filter p (xs ++ x ∷ [])) ≡ length (filter p xs) + one_if (p x)
passes_more p xs x = rw (filter-append p xs (x ∷ []), length-append (filter p xs) (filter p (x ∷ [])), length_if (p x) x) refl

entries_more : (p : Slot → Bool) (ups : List (List Slot)) (up : List Slot) → length (filter p (all_entries (ups ++ up ∷ []))) ≡ length (filter p (all_entries ups)) + length (filter p up)
entries_more p ups up =
    rw (flat_map-append (λ (one : List Slot). one) ups (up ∷ []), append-nil up, filter-append p (all_entries ups) up, length-append (filter p (all_entries ups)) (filter p up)) refl

pub counted : (up : List Slot) (before now : TallyView) → IsCounting up true before [] now
    → (bound : ℕ) (ups : List (List Slot)) → IsTally bound ups before → IsTally bound (ups ++ up ∷ []) now
counted up before now is bound ups was =
    record {
      groups_len = is.lens.groups ∙ was.groups_len;
      entries_len = is.lens.entries ∙ was.entries_len;
      primaries_len = is.lens.primaries ∙ was.primaries_len;
      groups = λ id lt. (
          let more = passes_more (λ (one : List Slot). has one (device_item id)) ups up in
          omega (arith, is.groups id (rw was.groups_len lt), was.groups id lt, more));
      entries = λ id lt. (
          let more = entries_more (slot_has (device_item id)) ups up in
          omega (arith, is.entries id (rw was.entries_len lt), was.entries id lt, more));
      primaries = λ id lt. (
          let more = passes_more (λ (one : List Slot). slot_has (device_item id) (primary_of one)) ups up in
          let first = one_and (slot_has (device_item id) (primary_of up)) in
          omega (arith, is.primaries id (rw was.primaries_len lt), was.primaries id lt, more, first));
      filled = (let more = entries_more is_some ups up in omega (arith, is.filled, was.filled, more));
    }
  where
    one_and : (b : Bool) → one_if (b && true) ≡ one_if b
    one_and true = refl
    one_and false = refl
