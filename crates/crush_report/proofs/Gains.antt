-- The groups of a pool gain at most SIZE_LIMIT devices each.
use Rattle.std.proofs.Common.{ℕ, zero, suc, ◌+◌, ◌*◌, ◌≤◌, Bool, true, false, List, [], ◌∷◌, length, Some, None, if◌then◌else◌, arith}
use Rattle.std.specs.List.{range_with_len, cons_option}
use Rattle.crush_choose.specs.Marks.{Slot}
use Rattle.crush_report.specs.Moves.{is_gain, gained, gained_in, move_rows, same_slots}
use Rattle.crush_report.specs.declared.rows.MoveRow.{MoveRow}
use Rattle.crush_choose.specs.declared.limits.TheConstants.{SIZE_LIMIT}

if_one_more : (b : Bool) (n most : ℕ) → n ≤ most → (if b then suc n else n) ≤ suc most
if_one_more true n most le = omega (arith, le)
if_one_more false n most le = omega (arith, le)

gained_few : (old new : List Slot) → gained old new ≤ length new
gained_few old [] = omega arith
gained_few old (slot ∷ new) = if_one_more (is_gain old slot new) (gained old new) (length new) (gained_few old new)

row_few : (b : Bool) (row : MoveRow) (rows : List MoveRow) (most : ℕ) → row.gained ≤ SIZE_LIMIT → gained_in rows ≤ most → gained_in (cons_option (if b then None else Some row) rows) ≤ most + SIZE_LIMIT
row_few true row rows most le rest = omega (arith, rest)
row_few false row rows most le rest = omega (arith, le, rest)

pub gains_few : (old new : ℕ → List Slot) (a n : ℕ) → ((group : ℕ) → length (new group) ≤ SIZE_LIMIT) → gained_in (move_rows old new (range_with_len a n)) ≤ SIZE_LIMIT * n
gains_few old new a zero short = omega arith
gains_few old new a (suc n) short =
    let row : MoveRow = record { group = a; gained = gained (old a) (new a); old = old a; new = new a } in
    let few : gained (old a) (new a) ≤ SIZE_LIMIT = omega (arith, gained_few (old a) (new a), short a) in
    omega (arith, row_few (same_slots (old a) (new a)) row (move_rows old new (range_with_len (a + 1) n)) (SIZE_LIMIT * n) few (gains_few old new (a + 1) n short))
