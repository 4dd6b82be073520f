use Rattle.std.proofs.Common.{◌≡◌}
use Rattle.std.specs.List.{range_with_len}
use Rattle.crush_report.specs.Moves.{move_rows}
use Rattle.crush_report.specs.OnMaps.{up_on}
use Rattle.crush_report.specs.Private.Parts.{list_at}
use Rattle.crush_report.proofs.moved_from.moved_rows.Given as goal

abbrev pub invariant-loop-group : goal.invariant-loop-group
invariant-loop-group l = record {
  on : l.run ≡ l.fn.run;
  rows : l.rows.items ≡ move_rows (list_at l.old) (up_on l.fn.run) (range_with_len 0 l.group);
}
