use Rattle.std.proofs.Common.{◌≤◌, ◌-◌, length}
use Rattle.crush_hash.specs.Private.Parts.{AreNew, HaveRoom}
use Rattle.crush_hash.proofs.perms.Perms.build.Given as goal

abbrev pub invariant-slots : goal.invariant-slots
invariant-slots l = record {
  new : AreNew l.made.items l.end;
  room : HaveRoom l.size l.made.items;
  count : length l.made.items ≤ l.count;
}

abbrev pub decreases-slots : goal.decreases-slots
decreases-slots l = l.count - length l.made.items
