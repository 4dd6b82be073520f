use Rattle.std.proofs.Common.{◌≡◌, ◌+◌, fold, max, take}
use Rattle.crush_pool.proofs.exceptions.reach_of.Given as goal

-- the reach of the pairs so far
abbrev pub invariant-loop-pair : goal.invariant-loop-pair
invariant-loop-pair l = l.reach ≡ fold (λ reach p. max reach (p.group + 1)) 0 (take l.pair-index l.pairs)
