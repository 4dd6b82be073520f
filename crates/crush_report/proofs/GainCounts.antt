-- The gains of a list count each device once that is in the new list and not in the old one.
use Rattle.std.proofs.Common.{◌≡◌, ℕ, ℤ, pos, suc, ◌+◌, ◌||◌, ◌&&◌, not, List, [], ◌∷◌, Bool, true, false, cond, Some, None, if◌then◌else◌, sum_by, count_by, refl, ap, sym, ◌∙◌, arith}
use Rattle.std.specs.List.{All}
use Rattle.std.specs.Ordering.{int_eq}
use Rattle.std.proofs.lemmas.Bool.Decides.{Decides-int_eq}
use Rattle.std.proofs.lemmas.List.Elements.{All-head, All-tail}
use Rattle.std.proofs.lemmas.List.Sums.{sum_by-cons}
use Rattle.crush_map.specs.crush_types.specs.declared.ItemId.{ItemId}
use Rattle.crush_choose.specs.Firstn.{has}
use Rattle.crush_choose.specs.Marks.{Slot}
use Rattle.crush_report.specs.Moves.{gained, gained_in, is_gain}
use Rattle.crush_pool.specs.Exceptions.{device_item}
use Rattle.crush_report.specs.declared.rows.MoveRow.{MoveRow}
use Rattle.crush_report.proofs.Sums.{AreAscending, IsAmong, counted_once, none_counted, one_if, sum_both, sum_same, sum_zero}

-- a device that is in the new list and not in the old one
abbrev is_new : List Slot → List Slot → ℕ → Bool
is_new old new id = has new (device_item id) && not (has old (device_item id))

by_bools : (o n : Bool) → one_if (not o) ≡ cond (not o && not n) 1 0 + one_if (n && not o)
by_bools false false = omega arith
by_bools false true = omega arith
by_bools true false = omega arith
by_bools true true = omega arith

if_none : (g : Bool) → ◌≡◌ {A = ℕ} (cond g 0 0) 0
if_none true = refl
if_none false = refl

-- whether an id is counted with one slot more
at_id : (old new : List Slot) (item : ItemId) (id : ℕ) (test : Bool) → int_eq item.0 (pos id) ≡ test
    → one_if ((test || has new (device_item id)) && not (has old (device_item id)))
    ≡ cond (is_gain old (Some item) new) (one_if test) 0 + one_if (is_new old new id)
at_id old new item id false e = omega (arith, if_none (is_gain old (Some item) new))
at_id old new item id true e =
    let is : item.0 ≡ pos id = (Decides-int_eq item.0 (pos id)).0 e in
    let same : item ≡ device_item id = ap (λ (z : ℤ). record { 0 = z }) is in
    rw same (by_bools (has old (device_item id)) (has new (device_item id)))

pos_is : (item : ItemId) (id k : ℕ) → item.0 ≡ pos k → int_eq item.0 (pos id) ≡ true → id ≡ k
pos_is item id k is there =
    let same : item.0 ≡ pos id = (Decides-int_eq item.0 (pos id)).0 there in
    let both : pos k ≡ pos id = sym is ∙ same in
    cc

-- a slot counts for its device alone, if at all
if_counted : (g : Bool) (p : ℕ → Bool) (ids : List ℕ) → count_by p ids ≡ 1 → sum_by (λ id. cond g (one_if (p id)) 0) ids ≡ cond g 1 0
if_counted true p ids once = once
if_counted false p ids once = sum_zero ids

one_more : (g : Bool) (n : ℕ) → (if g then suc n else n) ≡ cond g 1 0 + n
one_more true n = omega arith
one_more false n = omega arith

pub gains_counted : (old new : List Slot) (ids : List ℕ) → AreAscending ids → All (IsAmong ids) new → gained old new ≡ count_by (is_new old new) ids
gains_counted old [] ids ascending are = sym (none_counted (is_new old []) ids (λ j d lt. refl))
gains_counted old (None ∷ new) ids ascending are = gains_counted old new ids ascending (All-tail (IsAmong ids) None new are)
gains_counted old (Some item ∷ new) ids ascending are =
    let g = is_gain old (Some item) new in
    let among = All-head (IsAmong ids) (Some item) new are in
    let p = λ (id : ℕ). int_eq item.0 (pos id) in
    let once : count_by p ids ≡ 1 = counted_once p among.0 (λ id there. pos_is item id among.0 among.1 there) ((Decides-int_eq item.0 (pos among.0)).1 among.1) ids ascending among.2 in
    let each = sum_same (λ (id : ℕ). one_if (is_new old (Some item ∷ new) id)) (λ (id : ℕ). cond g (one_if (p id)) 0 + one_if (is_new old new id)) ids
    (λ (id : ℕ). at_id old new item id (p id) refl) in
    let parts = sum_both (λ (id : ℕ). cond g (one_if (p id)) 0) (λ (id : ℕ). one_if (is_new old new id)) ids in
    let rest = gains_counted old new ids ascending (All-tail (IsAmong ids) (Some item) new are) in
    omega (arith, one_more g (gained old new), each, parts, if_counted g p ids once, rest)

pub gains_summed : (rows : List MoveRow) → gained_in rows ≡ sum_by (λ row. row.gained) rows
gains_summed [] = refl
gains_summed (row ∷ rows) = omega (arith, sum_by-cons (λ (r : MoveRow). r.gained) row rows, gains_summed rows)
