use Rattle.std.proofs.Common.{length}
use Rattle.tenant_service.specs.Writing.{AppendsUpTo}
use Rattle.tenant_service.proofs.writing.write_whole.Given as goal

-- all but the rest was written
abbrev pub invariant-loop-rest : goal.invariant-loop-rest
invariant-loop-rest g l = AppendsUpTo l.rest (g.W.Write.contents l.fn.writer) (g.W.Write.contents l.writer) l.bytes

abbrev pub decreases-loop-rest : goal.decreases-loop-rest
decreases-loop-rest g l = length l.rest
