use Rattle.std.proofs.Common.{◌≡◌, map}
use Rattle.std.specs.List.{range_with_len}
use Rattle.crush_report.specs.OnMaps.{up_on}
use Rattle.crush_report.specs.Private.Tallies.{IsTally, id_bound}
use Rattle.crush_report.proofs.usage_counts.usage_with.Given as goal

abbrev pub invariant-loop-group : goal.invariant-loop-group
invariant-loop-group l = record {
  on : l.run ≡ l.placer;
  tally : IsTally (id_bound l.devices) (map (up_on l.placer) (range_with_len 0 l.group)) l.tally;
}
