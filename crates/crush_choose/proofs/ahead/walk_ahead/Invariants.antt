use Rattle.std.proofs.Common.{◌≡◌}
use Rattle.crush_choose.proofs.ahead.walk_ahead.Given as goal

abbrev pub invariant-down : goal.invariant-down
invariant-down l = l.scratch ≡ l.initial.scratch
