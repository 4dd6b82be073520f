use Rattle.std.proofs.Common.{ap, arith}
use Rattle.crush_hash.specs.Permutation.{Remembered}
use Rattle.crush_hash.proofs.Reaching.{new_is}
use Rattle.crush_hash.proofs.perm.Perm.build.Goals as goal

pub invariant_of-result : goal.invariant_of-result
invariant_of-result c =
    let of = c.new.ensures.remembered in
    let size = ap (λ (m : Remembered). m.of.size) of in
    new_is c.new.result c.in_ok-row.row.items c.new.ensures.empty (omega (arith, size, c.requires)) (omega (arith, size, c.room_of.ensures, c.in_ok-row.ensures))
