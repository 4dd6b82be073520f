use Rattle.std.proofs.Common.{ℕ, None, length, slice_index_or, sym, arith, rules}
use Rattle.crush_choose.specs.Indep.{taken, is_of, earlier}
use Rattle.crush_choose.proofs.Least.{some_below_found}
use Rattle.crush_choose.proofs.indep.taken.Goals as goal

pub returns-then-is_taken_at : goal.returns-then-is_taken_at
unfolding taken
returns-then-is_taken_at c =
    sym (some_below_found (λ (q : ℕ). is_of c.args.item (earlier c.args.round c.args.pos q (slice_index_or c.args.marks.now q None))) c.loop-q.q (length c.args.marks.now) (omega arith) (search (rules, c.is_taken_at.ensures)))
