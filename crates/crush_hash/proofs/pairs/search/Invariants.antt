use Rattle.std.proofs.Common.{◌≡◌, ◌≢◌, ℕ, ◌<◌, ◌≤◌, ◌-◌, true, false, slice_index_or}
use Rattle.crush_hash.specs.Private.Pairs.{no_pair}
use Rattle.crush_hash.proofs.pairs.search.Given as goal

abbrev pub invariant-loop-i : goal.invariant-loop-i
invariant-loop-i l = record {
  within : l.to ≤ l.i;
  above : l.from ≤ l.to;
  below : 0 < l.to → (slice_index_or l.pairs (l.to - 1) no_pair).0 < l.place;
  higher : (j : ℕ) → l.to ≤ j → j < l.i → l.place ≤ (slice_index_or l.pairs j no_pair).0;
  there : l.found ≡ true → (l.to < l.i) × ((slice_index_or l.pairs l.to no_pair).0 ≡ l.place) × ((slice_index_or l.pairs l.to no_pair).1 ≡ l.member);
  absent : l.found ≡ false → (l.member ≡ l.place) × ((j : ℕ) → l.to ≤ j → j < l.i → (slice_index_or l.pairs j no_pair).0 ≢ l.place);
}
