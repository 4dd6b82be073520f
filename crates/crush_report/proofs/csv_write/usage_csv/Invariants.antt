use Rattle.std.proofs.Common.{◌≡◌, take}
use Rattle.crush_report.specs.Csv.{usage_text}
use Rattle.crush_report.proofs.csv_write.usage_csv.Given as goal

-- the head and the rows so far
abbrev pub invariant-loop-row : goal.invariant-loop-row
invariant-loop-row l = l.text.items ≡ usage_text (take l.row-index l.rows)
