use Rattle.crush_laws.proofs.Showing.{is_less}
use Rattle.crush_laws.proofs.written.a_part_is_not_all.Goals as goal

pub returns-clause-front : goal.returns-clause-front
returns-clause-front c = λ old new bytes part. (part.front.front, part.rest, part.front.all, part.front.written)

pub returns-clause-less : goal.returns-clause-less
returns-clause-less c = is_less
