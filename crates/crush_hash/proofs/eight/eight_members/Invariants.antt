use Rattle.std.proofs.Common.{◌≡◌, ℕ, ◌<◌, ◌+◌, ◌≤◌, slice_index, slice_index_or}
use Rattle.crush_hash.specs.Permutation.{no_id, word}
use Rattle.crush_hash.specs.Private.Eight.{ComesTo}
use Rattle.crush_hash.proofs.eight.eight_members.Given as goal

abbrev pub invariant-loop-left : goal.invariant-loop-left
invariant-loop-left l = record {
  few : l.left ≤ l.fn.place + 1;
  words : (lane : ℕ) → lane < 8 → slice_index l.words lane ≡ word (slice_index_or l.fn.ids lane no_id);
  lanes : (lane : ℕ) → lane < 8 → ComesTo (slice_index_or l.fn.ids lane no_id) (slice_index l.fn.sizes lane) (slice_index l.fn.xs lane) l.fn.place l.left (slice_index l.at lane);
}

abbrev pub decreases-loop-left : goal.decreases-loop-left
decreases-loop-left l = l.left
