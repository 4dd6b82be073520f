-- The groups of a pool whose up lists differ between two maps.
use Rattle.std.specs.Prelude.{ℕ, suc, ◌+◌, Bool, true, false, not, ◌&&◌, List, [], ◌∷◌, Option, Some, None, is_none, if◌then◌else◌}
use Rattle.std.specs.List.{filter_map}
use Rattle.crush_choose.specs.Firstn.{has, slot_has}
use Rattle.crush_choose.specs.Marks.{Slot}
use Rattle.crush_report.specs.declared.rows.MoveRow.{MoveRow}

-- ---- lists that are the same: equal slots in the same order
-- (law `groups_move_where_their_lists_differ`)

abbrev pub same_slot : Slot → Slot → Bool
same_slot None other = is_none other
same_slot (Some item) other = slot_has item other

abbrev pub same_slots : List Slot → List Slot → Bool
same_slots [] [] = true
same_slots [] (b ∷ bs) = false
same_slots (a ∷ rest) [] = false
same_slots (a ∷ rest) (b ∷ bs) = same_slot a b && same_slots rest bs

-- whether a slot of a new list has a device that is neither in the old list nor further on in the
-- new one: so each device counts once
abbrev pub is_gain : List Slot → Slot → List Slot → Bool
is_gain old None others = false
is_gain old (Some item) others = not (has old item) && not (has others item)

-- how many devices are in the new list and not in the old one
abbrev pub gained : List Slot → List Slot → ℕ
gained old [] = 0
gained old (slot ∷ new) = if is_gain old slot new then suc (gained old new) else gained old new

-- the row of a group with two up lists, if they differ
abbrev pub move_between : ℕ → List Slot → List Slot → Option MoveRow
move_between group old new =
    if same_slots old new then None else Some (record { group = group; gained = gained old new; old = old; new = new })

-- the rows of the groups whose up lists differ, in order of the groups
abbrev pub move_rows : (ℕ → List Slot) → (ℕ → List Slot) → List ℕ → List MoveRow
move_rows old new groups = filter_map (λ group. move_between group (old group) (new group)) groups

-- how many devices the groups gain in all
abbrev pub gained_in : List MoveRow → ℕ
gained_in [] = 0
gained_in (row ∷ rows) = row.gained + gained_in rows
