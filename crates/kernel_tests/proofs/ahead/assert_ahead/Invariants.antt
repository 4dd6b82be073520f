use Rattle.std.proofs.Common.{◌≡◌}
use Rattle.crush_bucket.specs.Tables.{scratch_of}
use Rattle.kernel_tests.proofs.ahead.assert_ahead.Given as goal

abbrev pub invariant-lanes : goal.invariant-lanes
invariant-lanes g l = l.scratch ≡ scratch_of l.tables
