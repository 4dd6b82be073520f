use Rattle.std.proofs.Common.{◌≡◌, ◌∷◌, ◌++◌, false, length, map, string_bytes}
use Rattle.serde_json.specs.View.{items_of}
use Rattle.serde_json.specs.Written.{items_text}
use Rattle.tenant_reports.proofs.rows.push_rows.Given as goal

-- the text so far with the rest of the list is the text before the loop with the whole list
abbrev pub invariant-loop-rest : goal.invariant-loop-rest
invariant-loop-rest g l = string_bytes l.text ++ items_text l.later (items_of (map g.R.ReportRow.json l.rest)) ≡ string_bytes l.fn.text ++ (91 ∷ items_text false (items_of (map g.R.ReportRow.json l.rows)))

abbrev pub decreases-loop-rest : goal.decreases-loop-rest
decreases-loop-rest g l = length l.rest
