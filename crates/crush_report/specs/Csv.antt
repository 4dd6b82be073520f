-- Reports as CSV: a record of the names of the columns, and then a record of each row.
--
-- Source: RFC 4180, with the line ends of `csv`, LF. No field here holds what calls for quotes.
use Rattle.std.specs.Prelude.{ℕ, List, [], ◌∷◌, map, Some, None, codes, flat_map}
use Rattle.std.specs.Fmt.{decimal, signed_decimal}
use Rattle.std.specs.List.{join_by}
use Rattle.csv.specs.Writing.{default_writer, row_text}
use Rattle.crush_choose.specs.Marks.{Slot}
use Rattle.crush_report.specs.declared.rows.UsageRow.{UsageRow}
use Rattle.crush_report.specs.declared.rows.MoveRow.{MoveRow}

-- the text of records, each a list of fields
abbrev pub records_text : List (List (List ℕ)) → List ℕ
records_text records = flat_map (row_text default_writer) records

-- ---- usage

abbrev pub usage_head : List (List ℕ)
usage_head = codes "device" ∷ codes "groups" ∷ codes "entries" ∷ codes "primaries" ∷ codes "permille" ∷ []

abbrev pub usage_fields : UsageRow → List (List ℕ)
usage_fields r = decimal r.device ∷ decimal r.groups ∷ decimal r.entries ∷ decimal r.primaries ∷ decimal r.permille ∷ []

abbrev pub usage_records : List UsageRow → List (List (List ℕ))
usage_records rows = usage_head ∷ map usage_fields rows

abbrev pub usage_text : List UsageRow → List ℕ
usage_text rows = records_text (usage_records rows)

-- ---- moves

-- an item by its id; `-` for none
abbrev pub slot_text : Slot → List ℕ
slot_text None = codes "-"
slot_text (Some item) = signed_decimal item.0

-- the items of a list, with one space between two
abbrev pub list_text : List Slot → List ℕ
list_text slots = join_by slot_text (codes " ") slots

abbrev pub move_head : List (List ℕ)
move_head = codes "group" ∷ codes "gained" ∷ codes "old" ∷ codes "new" ∷ []

abbrev pub move_fields : MoveRow → List (List ℕ)
move_fields r = decimal r.group ∷ decimal r.gained ∷ list_text r.old ∷ list_text r.new ∷ []

abbrev pub move_records : List MoveRow → List (List (List ℕ))
move_records rows = move_head ∷ map move_fields rows

abbrev pub moves_text : List MoveRow → List ℕ
moves_text rows = records_text (move_records rows)
