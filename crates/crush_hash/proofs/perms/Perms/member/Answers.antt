use Rattle.std.proofs.Common.{◌≡◌, ◌<◌, length, take, drop, List, ap, arith, sym, ◌∙◌}
use Rattle.std.proofs.lemmas.List.{length-set}
use Rattle.crush_hash.specs.Private.Pairs.{Pair}
use Rattle.crush_hash.proofs.Parts.{whole, parts_after, room_after}
use Rattle.crush_hash.proofs.perms.Perms.member.Goals as goal

pub invariant_of-self : goal.invariant_of-self
invariant_of-self c =
    let slots = c.self.inside.slots.items in
    let slot = c.index_mut-slot.result.now in
    let at = c.if-number-count.at in
    let low : at < length slots = omega arith in
    let new = c.member.new.self in
    let is = c.member.ensures in
    let there = sym c.index_mut-slot.ensures.value in
    let row = c.self.inside.row.items in
    let after = c.member.new.row in
    let value = c.as_mut_slice.ensures.value in
    let long = ap (λ (r : List Pair). length r) value in
    let len : c.self.inside.row.len ≡ length row = omega (arith, c.as_mut_slice.ensures.len, long) in
    let same : length after ≡ length row = is.length ∙ long in
    let before : take slot.start after ≡ take slot.start row = is.before ∙ ap (λ (r : List Pair). take slot.start r) value in
    let behind : drop slot.end after ≡ drop slot.end row = is.behind ∙ ap (λ (r : List Pair). drop slot.end r) value in
    record {
      parts = rw (whole row after c.self.inside.row.len len same) (parts_after slots row after at slot new c.self.invariant.parts low there is.start is.end is.part same before behind);
      room = room_after c.self.inside.size slots at slot new c.self.invariant.room low there is.start is.end;
      some = λ wide. omega (arith, c.self.invariant.some wide, length-set slots at new);
      small = c.self.invariant.small;
    }
