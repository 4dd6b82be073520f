use Rattle.std.proofs.Common.{◌≡◌, take}
use Rattle.crush_report.specs.Csv.{moves_text}
use Rattle.crush_report.proofs.csv_write.moves_csv.Given as goal

-- the head and the rows so far
abbrev pub invariant-loop-row : goal.invariant-loop-row
invariant-loop-row l = l.text.items ≡ moves_text (take l.row-index l.rows)
