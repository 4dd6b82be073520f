use Rattle.crush_choose.specs.Private.Reachable.{IsMarked, can_be_placed, marked}
use Rattle.crush_choose.proofs.reachable.Aim.mark_reachable.Given as goal

abbrev pub invariant-loop-place : goal.invariant-loop-place
invariant-loop-place l = IsMarked l.self.tables.now l.self.wanted (can_be_placed l.self.tables.now l.self.weights.now l.self.x l.self.chosen.now (marked l.self.leafy.now)) l.place l.found
