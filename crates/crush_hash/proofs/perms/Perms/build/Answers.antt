use Rattle.std.proofs.Common.{◌≡◌, length, arith, subst}
use Rattle.crush_hash.specs.Private.Parts.{AreNew}
use Rattle.crush_hash.proofs.Parts.{new_parts}
use Rattle.crush_hash.proofs.perms.Perms.build.Goals as goal
use Rattle.crush_hash.proofs.perms.Perms.build.Goals.{then-size-eq0, else-size-eq0}

pub invariant_of-result : goal.invariant_of-result
invariant_of-result c =
    let slots = c.slots.made.items in
    let row = c.in_ok-row.row.items in
    let long : c.slots.end ≡ length row = omega (arith, c.in_ok-row.ensures) in
    record {
      parts = new_parts slots row (subst (λ n. AreNew slots n) long c.slots.invariant.new);
      room = c.slots.invariant.room;
      some = λ wide. elim c.if-size-eq0.branch [ then-size-eq0 w ↦ absurd (omega (arith, wide)) | else-size-eq0 w ↦ omega (arith, wide) ];
      small = c.requires;
    }
