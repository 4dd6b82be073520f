use Rattle.std.proofs.Common.{◌≡◌, None, false, slice_index_or}
use Rattle.crush_choose.specs.Indep.{some_below, is_of, earlier}
use Rattle.crush_choose.proofs.indep.taken.Given as goal

abbrev pub invariant-loop-q : goal.invariant-loop-q
invariant-loop-q l = some_below (λ q. is_of l.item (earlier l.round l.pos q (slice_index_or l.marks q None))) l.q ≡ false
