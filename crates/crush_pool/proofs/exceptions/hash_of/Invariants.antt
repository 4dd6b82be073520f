use Rattle.std.proofs.Common.{◌≡◌, drop}
use Rattle.std.specs.Hash.FoldHasher as folding
use Rattle.std.specs.List.{flat_map}
use Rattle.crush_pool.specs.Hashes.{fed_with, pair_writes}
use Rattle.crush_pool.proofs.exceptions.hash_of.Given as goal

-- the remaining pairs are fed to what the pairs so far made
abbrev pub invariant-loop-pair : goal.invariant-loop-pair
invariant-loop-pair l = fed_with l.hasher (flat_map pair_writes (drop l.pair-index l.pairs)) ≡ fed_with folding.initial (flat_map pair_writes l.pairs)
