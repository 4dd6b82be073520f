use Rattle.std.proofs.Common.{◌≡◌, length}
use Rattle.crush_pool.proofs.Pairs.{HasFrom, HasNextFrom}
use Rattle.crush_pool.proofs.exceptions.places_of.Given as goal

-- the pairs from the place on are in both tables
abbrev pub invariant-loop-place : goal.invariant-loop-place
invariant-loop-place l = record {
  first : HasFrom l.first l.pairs l.place;
  next : HasNextFrom l.next.items l.pairs l.place;
  each : length l.next.items ≡ length l.pairs;
}
