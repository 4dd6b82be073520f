use Rattle.std.proofs.Common.{◌≡◌, ℕ, ◌+◌, ◌≤◌}
use Rattle.crush_types.specs.declared.ItemId.{ItemId}
use Rattle.crush_hash.specs.Private.Eight.{ComesTo}
use Rattle.crush_hash.specs.Private.Pairs.{AreHashes}
use Rattle.crush_hash.proofs.early.early_member.Given as goal

abbrev pub invariant-loop-left : goal.invariant-loop-left
invariant-loop-left l = record {
  few : l.left ≤ l.fn.place + 1;
  comes : (id : ItemId) (x : ℕ) → AreHashes id x 0 l.fn.hashes → ComesTo id l.fn.size x l.fn.place l.left l.at;
}

abbrev pub decreases-loop-left : goal.decreases-loop-left
decreases-loop-left l = l.left
