use Rattle.std.proofs.Common.{◌≡◌, ℕ}
use Rattle.std.specs.List.{range_with_len}
use Rattle.crush_bucket.specs.Tables.{scratch_of, tables_of}
use Rattle.crush_report.specs.OnMaps.{touched_on}
use Rattle.crush_report.specs.Touches.{groups_in}
use Rattle.crush_report.proofs.touches.pairs_by_group.Given as goal

abbrev pub invariant-loop-group : goal.invariant-loop-group
invariant-loop-group l = record {
  fits : l.scratch ≡ scratch_of (tables_of l.placer.map);
  found : (d : ℕ) → groups_in l.pairs.items d ≡ touched_on l.placer d (range_with_len 0 l.group);
}
