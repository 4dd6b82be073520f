use Rattle.std.proofs.Common.{◌≡◌}
use Rattle.crush_choose.proofs.ahead.choose_ahead.Given as goal

abbrev pub invariant-loop-rep : goal.invariant-loop-rep
invariant-loop-rep l = l.scratch ≡ l.initial.scratch
