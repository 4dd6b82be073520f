use Rattle.std.proofs.Common.{◌≡◌}
use Rattle.std.specs.List.{range_with_len}
use Rattle.crush_report.specs.Moves.{move_rows}
use Rattle.crush_report.specs.OnMaps.{up_on}
use Rattle.crush_report.proofs.moved_groups.moved_rows.Given as goal

abbrev pub invariant-loop-group : goal.invariant-loop-group
invariant-loop-group l = record {
  first : l.from ≡ l.fn.from;
  second : l.to ≡ l.fn.to;
  rows : l.rows.items ≡ move_rows (up_on l.fn.from) (up_on l.fn.to) (range_with_len 0 l.group);
}
