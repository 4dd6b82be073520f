use Rattle.std.proofs.Common.{◌≡◌, true, ◌<◌, ◌≤◌, ◌-◌, max, slice_index, length}
use Rattle.crush_hash.specs.Permutation.{after_swaps}
use Rattle.crush_hash.specs.Private.Reached.{IsReached, remembered_by}
use Rattle.crush_hash.proofs.reached.Progress.reach.Given as goal

abbrev pub invariant-loop-n : goal.invariant-loop-n
invariant-loop-n l = record {
  remembered : remembered_by l.self ≡ record { of = record { id = l.fn.self.hashes; size = l.fn.self.size }; x = l.fn.self.x; swaps = l.n };
  written : l.self.written ≡ true;
  reached : IsReached l.self l.row;
  last : l.made < l.n → l.last ≡ slice_index (after_swaps l.fn.self.hashes l.fn.self.size l.fn.self.x l.n) (l.n - 1);
  most : l.n ≤ max l.made l.wanted;
  room : length l.row ≡ length l.fn.row;
}
