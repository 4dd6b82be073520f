use Rattle.std.proofs.Common.{◌≡◌}
use Rattle.crush_bucket.specs.Tables.{scratch_of}
use Rattle.kernel_tests.proofs.ahead.assert_uniform.Given as goal

abbrev pub invariant-inputs : goal.invariant-inputs
invariant-inputs g l = l.scratch ≡ scratch_of l.tables

abbrev pub invariant-steps : goal.invariant-steps
invariant-steps g l = l.scratch ≡ scratch_of l.tables
