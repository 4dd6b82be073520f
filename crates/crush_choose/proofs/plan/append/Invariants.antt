use Rattle.std.proofs.Common.{◌≡◌, ◌++◌, take}
use Rattle.crush_choose.proofs.plan.append.Given as goal

abbrev pub invariant-loop-slot : goal.invariant-loop-slot
invariant-loop-slot l = l.row ≡ l.initial.row ++ take l.slot-index l.slots
