use Rattle.std.proofs.Common.{◌≡◌, ◌+◌, ◌<◌, ◌≤◌, ℕ, List, Some, map, length, true}
use Rattle.csv.specs.Reading.{Reached, Ready, default_config, is_flexible, source_of, strip_bom}
use Rattle.csv.specs.Records.{fields_of}
use Rattle.csv.specs.declared.parser.State.TheVariants as st
use Rattle.csv.specs.declared.reader.Trim.TheVariants as trim
use Rattle.crush_report.proofs.csv_read.first_records.Given as goal
use Rattle.crush_pool.specs.declared.limits.TheConstants.{CHANGE_LIMIT}

-- the records so far are those that the reader has reached, and few; it takes records of any length
abbrev pub invariant-loop-next : goal.invariant-loop-next
invariant-loop-next l = (l.next-iterator.rdr.trim ≡ trim.None) × Ready l.next-iterator.rdr × (0 < l.next-iterator.left) × (l.next-iterator.rdr.config ≡ default_config)
    × (length l.found.items ≤ CHANGE_LIMIT + 2) × (is_flexible l.next-iterator.rdr ≡ true) × (y : List ℕ) × (source_of (λ s. Some s.now) l.next-iterator.rdr ≡ Some y)
    × Reached default_config st.StartRecord (strip_bom l.fn.text) (map fields_of l.found.items) l.next-iterator.rdr.state y
