-- Counts of each device of a list, where each is there once, sum up to the count of what is one of
-- them.
use Rattle.std.proofs.Common.{◌≡◌, ℕ, pos, suc, ◌+◌, ◌<◌, ◌==◌, List, [], ◌∷◌, length, map, filter, Bool, true, false, cond, is_some, Some, None, IfSome, slice_index_or, sum_by, count_by, refl, ap, sym, ◌∙◌, arith}
use Rattle.std.specs.List.{All, AllPairs, list_any}
use Rattle.std.specs.Ordering.{int_eq}
use Rattle.std.proofs.Math.Path.{fun_ext}
use Rattle.std.proofs.lemmas.Bool.{false_from_ne_true}
use Rattle.std.proofs.lemmas.Bool.Decides.{Decides-eqb, Decides-int_eq}
use Rattle.std.proofs.lemmas.List.Elements.{All-head, All-tail}
use Rattle.std.proofs.lemmas.List.Sums.{sum_by-cons}
use Rattle.crush_map.specs.declared.draft.Device.{Device}
use Rattle.crush_choose.specs.Firstn.{slot_has}
use Rattle.crush_choose.specs.Marks.{Slot}
use Rattle.crush_pool.specs.Exceptions.{device_item}
use Rattle.crush_report.specs.Usage.{usage_row}
use Rattle.crush_report.specs.declared.rows.UsageRow.{UsageRow}

abbrev pub one_if : Bool → ℕ
one_if b = cond b 1 0

-- ---- sums

pub sum_zero : {X : Type 0} (xs : List X) → sum_by (λ (x : X). 0) xs ≡ 0
sum_zero [] = refl
sum_zero {X} (x ∷ xs) = omega (arith, sum_by-cons (λ (y : X). 0) x xs, sum_zero xs)

pub sum_both : {X : Type 0} (g h : X → ℕ) (xs : List X) → sum_by (λ x. g x + h x) xs ≡ sum_by g xs + sum_by h xs
sum_both g h [] = refl
sum_both g h (x ∷ xs) = omega (arith, sum_by-cons (λ y. g y + h y) x xs, sum_by-cons g x xs, sum_by-cons h x xs, sum_both g h xs)

pub sum_same : {X : Type 0} (g h : X → ℕ) (xs : List X) → ((x : X) → g x ≡ h x) → sum_by g xs ≡ sum_by h xs
sum_same {X} g h xs same = ap (λ (f : X → ℕ). sum_by f xs) (fun_ext same)

-- ---- one number among ascending ones

pub none_counted : (p : ℕ → Bool) (ids : List ℕ) → All (λ n. p n ≡ false) ids → count_by p ids ≡ 0
none_counted p [] none = refl
none_counted p (id ∷ ids) none =
    let here : one_if (p id) ≡ 0 = rw (All-head (λ n. p n ≡ false) id ids none) refl in
    omega (arith, here, sum_by-cons (λ n. one_if (p n)) id ids, none_counted p ids (All-tail (λ n. p n ≡ false) id ids none))

module _ (p : ℕ → Bool) (k : ℕ) (only : (id : ℕ) → p id ≡ true → id ≡ k) (passes : p k ≡ true) where
  -- none after the one that passes does
  none_after : (id : ℕ) (ids : List ℕ) → id ≡ k → All (λ n. id < n) ids → All (λ n. p n ≡ false) ids
  none_after id ids same above j d lt =
      let n = slice_index_or ids j d in
      let more : id < n = above j d lt in
      false_from_ne_true (p n) (λ yes. (let is : n ≡ k = only n yes in omega (arith, is, more, same)))

  counted_at : (id : ℕ) (ids : List ℕ) (test : Bool) → p id ≡ test → All (λ n. id < n) ids → list_any (λ n. n == k) (id ∷ ids) ≡ true
      → (list_any (λ n. n == k) ids ≡ true → count_by p ids ≡ 1) → count_by p (id ∷ ids) ≡ 1
  counted_at id ids true e above has rest =
      let here : one_if (p id) ≡ 1 = rw e refl in
      omega (arith, here, sum_by-cons (λ n. one_if (p n)) id ids, none_counted p ids (none_after id ids (only id e) above))
  counted_at id ids false e above has rest =
      let here : one_if (p id) ≡ 0 = rw e refl in
      let other : (id == k) ≡ false = false_from_ne_true (id == k) (λ yes. (let same : id ≡ k = (Decides-eqb id k).0 yes in let bad : p k ≡ false = rw same at e in cc)) in
      omega (arith, here, sum_by-cons (λ n. one_if (p n)) id ids, rest (rw other at has))

  -- a number that is among ascending ones is there once
  pub counted_once : (ids : List ℕ) → AllPairs (λ a b. a < b) ids → list_any (λ n. n == k) ids ≡ true → count_by p ids ≡ 1
  counted_once [] pairs has = cc
  counted_once (id ∷ ids) pairs has =
      counted_at id ids (p id) refl (λ j d lt. pairs 0 (suc j) d (omega arith) (omega arith)) has (counted_once ids (λ i j d lt within. pairs (suc i) (suc j) d (omega arith) (omega arith)))

-- ---- slots

-- the slot is none, or a device with one of the ids
abbrev pub IsAmong : List ℕ → Slot → Type 0
IsAmong ids slot = IfSome slot (λ item. (k : ℕ) × (item.0 ≡ pos k) × (list_any (λ n. n == k) ids ≡ true))

abbrev pub AreAscending : List ℕ → Type 0
AreAscending ids = AllPairs (λ a b. a < b) ids

-- a slot counts for one of the devices, unless it is none
slot_counted : (ids : List ℕ) → AreAscending ids → (slot : Slot) → IsAmong ids slot → count_by (λ id. slot_has (device_item id) slot) ids ≡ one_if (is_some slot)
slot_counted ids ascending None is = none_counted (λ id. false) ids (λ j d lt. refl)
slot_counted ids ascending (Some item) (k, e, has) =
    counted_once (λ id. int_eq item.0 (pos id)) k (λ id yes. (let same : item.0 ≡ pos id = (Decides-int_eq item.0 (pos id)).0 yes in let both : pos k ≡ pos id = sym e ∙ same in cc)) ((Decides-int_eq item.0 (pos k)).1 e) ids ascending has

pub filter_if : {X : Type 0} (b : Bool) (x : X) (kept : List X) → length (cond b (x ∷ kept) kept) ≡ one_if b + length kept
filter_if true x kept = omega arith
filter_if false x kept = omega arith

-- elements of which each has a slot: counted for each device, they sum up to those whose slot isn't
-- none
pub each_counted : {X : Type 0} (slot : X → Slot) (ids : List ℕ) → AreAscending ids → (xs : List X) → All (λ x. IsAmong ids (slot x)) xs
    → sum_by (λ id. length (filter (λ x. slot_has (device_item id) (slot x)) xs)) ids ≡ length (filter (λ x. is_some (slot x)) xs)
each_counted slot ids ascending [] are = sum_zero ids
each_counted {X} slot ids ascending (x ∷ xs) are =
    let count = λ (id : ℕ). length (filter (λ (y : X). slot_has (device_item id) (slot y)) xs) in
    let more = sum_same (λ (id : ℕ). length (filter (λ (y : X). slot_has (device_item id) (slot y)) (x ∷ xs))) (λ (id : ℕ). one_if (slot_has (device_item id) (slot x)) + count id) ids
    (λ (id : ℕ). filter_if (slot_has (device_item id) (slot x)) x (filter (λ (y : X). slot_has (device_item id) (slot y)) xs)) in
    let parts = sum_both (λ (id : ℕ). one_if (slot_has (device_item id) (slot x))) count ids in
    let here = slot_counted ids ascending (slot x) (All-head (λ (y : X). IsAmong ids (slot y)) x xs are) in
    let rest = each_counted slot ids ascending xs (All-tail (λ (y : X). IsAmong ids (slot y)) x xs are) in
    omega (arith, more, parts, here, rest, filter_if (is_some (slot x)) x (filter (λ (y : X). is_some (slot y)) xs))

-- ---- rows

-- a sum over the rows of the devices is one over their ids
pub sum_rows : (ups : List (List Slot)) (part : UsageRow → ℕ) (count : ℕ → ℕ) (devices : List Device) → ((id : ℕ) → part (usage_row ups id) ≡ count id)
    → sum_by part (map (λ (d : Device). usage_row ups d.id) devices) ≡ sum_by count (map (λ (d : Device). d.id) devices)
sum_rows ups part count [] same = refl
sum_rows ups part count (d ∷ devices) same =
    let rows = map (λ (d : Device). usage_row ups d.id) devices in
    let ids = map (λ (d : Device). d.id) devices in
    omega (arith, sum_by-cons part (usage_row ups d.id) rows, sum_by-cons count d.id ids, same d.id, sum_rows ups part count devices same)
