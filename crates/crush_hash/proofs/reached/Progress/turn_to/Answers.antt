use Rattle.crush_hash.proofs.Reaching.{new_is}
use Rattle.std.proofs.Common.{ap, arith}
use Rattle.crush_hash.specs.Permutation.{Remembered}
use Rattle.crush_hash.proofs.reached.Progress.turn_to.Goals as goal

pub returns-then-self-size-clause-reached : goal.returns-then-self-size-clause-reached
returns-then-self-size-clause-reached c = λ row room old. (
    let size = ap (λ (m : Remembered). m.of.size) c.new.ensures.remembered in
    new_is c.new.result row c.new.ensures.empty (omega (arith, size, c.requires)) (omega (arith, size, room)))
