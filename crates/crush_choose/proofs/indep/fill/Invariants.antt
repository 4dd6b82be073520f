use Rattle.std.proofs.Common.{◌≡◌, map, take}
use Rattle.crush_choose.specs.Marks.{item_at, leaf_at}
use Rattle.crush_choose.proofs.indep.fill.Given as goal

abbrev pub invariant-loop-mark : goal.invariant-loop-mark
invariant-loop-mark l = record {
  items : l.items ≡ map item_at (take l.mark-index l.marks);
  leaves : l.leaves ≡ map leaf_at (take l.mark-index l.marks);
}
