use Rattle.std.proofs.Common.{◌≡◌, ℕ, ◌<◌, ◌≤◌, ◌+◌, length, slice_index_or}
use Rattle.crush_hash.specs.Private.Pairs.{no_pair}
use Rattle.crush_hash.proofs.pairs.move_right.Given as goal

abbrev pub invariant-loop-i : goal.invariant-loop-i
invariant-loop-i l = record {
  size : length l.row ≡ length l.initial.row;
  first : (k : ℕ) → k < l.at → slice_index_or l.row k no_pair ≡ slice_index_or l.initial.row k no_pair;
  before : (k : ℕ) → k < l.i → slice_index_or l.row k no_pair ≡ slice_index_or l.initial.row k no_pair;
  lower : (k : ℕ) → l.i ≤ k → l.at ≤ k → k < l.len → k < l.to → slice_index_or l.row (k + l.up) no_pair ≡ slice_index_or l.initial.row k no_pair;
  higher : (k : ℕ) → l.i ≤ k → l.at ≤ k → k < l.len → l.to ≤ k → slice_index_or l.row (k + l.up + l.more) no_pair ≡ slice_index_or l.initial.row k no_pair;
}
