use Rattle.std.proofs.Common.{◌≡◌, take}
use Rattle.crush_pool.specs.States.{reweights}
use Rattle.crush_pool.proofs.states.reweights_of.Given as goal

-- the pairs of the states so far
abbrev pub invariant-loop-state : goal.invariant-loop-state
invariant-loop-state l = l.given.items ≡ reweights (take l.state-index l.states)
