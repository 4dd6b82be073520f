use Rattle.std.proofs.Common.{◌≡◌}
use Rattle.crush_bucket.specs.Tables.{scratch_of}
use Rattle.crush_choose.proofs.ahead.look_ahead.Given as goal

abbrev pub invariant-loop-step : goal.invariant-loop-step
invariant-loop-step l = l.scratch ≡ scratch_of l.tables
