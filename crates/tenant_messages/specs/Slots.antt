-- JSON of what rules answer: items, none, and lists.
use Rattle.std.specs.Prelude.{List, Option, Some, None}
use Rattle.serde_json.specs.Data.{Data, null, number, array}
use Rattle.serde_json.specs.Find.{of_integer}
use Rattle.serde_json.specs.View.{items_of}
use Rattle.crush_map.specs.crush_types.specs.declared.ItemId.{ItemId}

-- an item, or none
abbrev pub slot_json : Option ItemId → Data
slot_json None = null
slot_json (Some item) = number (of_integer item.0)

abbrev pub list_json : List Data → Data
list_json values = array (items_of values)
