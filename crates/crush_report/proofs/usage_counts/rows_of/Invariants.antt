use Rattle.std.proofs.Common.{◌≡◌, map, take}
use Rattle.crush_report.specs.Private.Tallies.{row_by}
use Rattle.crush_report.proofs.usage_counts.rows_of.Given as goal

abbrev pub invariant-loop-device : goal.invariant-loop-device
invariant-loop-device l = l.rows.items ≡ map (λ d. row_by l.tally d.id) (take l.device-index l.devices)
