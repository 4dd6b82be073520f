use Rattle.std.proofs.Common.{◌≡◌}
use Rattle.crush_bucket.specs.Tables.{scratch_of}
use Rattle.choosing_tests.proofs.stability.assert_all_move_from_0.Given as goal

abbrev pub invariant-inputs : goal.invariant-inputs
invariant-inputs g l = l.scratch ≡ scratch_of l.tables
