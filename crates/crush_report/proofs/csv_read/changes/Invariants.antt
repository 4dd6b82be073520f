use Rattle.std.proofs.Common.{◌≡◌, ◌++◌, drop, map, option_map}
use Rattle.csv.specs.Records.{fields_of}
use Rattle.crush_report.specs.DeviceCsv.{changes_of}
use Rattle.crush_report.proofs.csv_read.changes.Given as goal

-- the changes so far, and then those of the remaining records, are all
abbrev pub invariant-loop-row : goal.invariant-loop-row
invariant-loop-row l =
    changes_of (map fields_of l.rows) ≡ option_map (λ others. l.found.items ++ others) (changes_of (map fields_of (drop l.row-index l.rows)))
