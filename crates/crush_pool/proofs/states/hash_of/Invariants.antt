use Rattle.std.proofs.Common.{◌≡◌, drop}
use Rattle.std.specs.Hash.FoldHasher as folding
use Rattle.std.specs.List.{flat_map}
use Rattle.crush_pool.specs.Hashes.{fed_with, state_writes}
use Rattle.crush_pool.proofs.states.hash_of.Given as goal

-- the remaining states are fed to what the states so far made
abbrev pub invariant-loop-state : goal.invariant-loop-state
invariant-loop-state l = fed_with l.hasher (flat_map state_writes (drop l.state-index l.states)) ≡ fed_with folding.initial (flat_map state_writes l.states)
