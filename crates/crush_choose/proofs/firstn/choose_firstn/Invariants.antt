use Rattle.std.proofs.Common.{◌≡◌, ◌≤◌, length}
use Rattle.crush_bucket.specs.Tables.{scratch_of}
use Rattle.crush_choose.specs.Marks.{items_of, leaves_of}
use Rattle.crush_choose.specs.Firstn.{mark_of}
use Rattle.crush_choose.specs.Growing.{grown}
use Rattle.crush_choose.proofs.firstn.choose_firstn.Given as goal

abbrev pub invariant-loop-rep : goal.invariant-loop-rep
invariant-loop-rep l = record {
  items : l.items ≡ items_of (grown (mark_of l.tables l.weights l.call) l.rep);
  leaves : l.leaves ≡ leaves_of (grown (mark_of l.tables l.weights l.call) l.rep);
  room : length l.items ≤ l.call.room;
  fits : l.scratch ≡ scratch_of l.tables;
}
