use Rattle.std.proofs.Common.{ℕ, ◌<◌, ◌≤◌, length, slice_index_or}
use Rattle.crush_hash.specs.Private.Pairs.{no_pair}
use Rattle.crush_hash.proofs.pairs.index_of.Given as goal

abbrev pub invariant-loop-at : goal.invariant-loop-at
invariant-loop-at l = record {
  within : l.at ≤ length l.pairs;
  higher : (j : ℕ) → l.at ≤ j → j < length l.pairs → l.place ≤ (slice_index_or l.pairs j no_pair).0;
}

abbrev pub decreases-loop-at : goal.decreases-loop-at
decreases-loop-at l = l.at
