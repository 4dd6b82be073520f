use Rattle.std.proofs.Common.{◌≡◌, ◌<◌, ◌-◌, slice_index_or, length-set, ◌∙◌, arith}
use Rattle.crush_pool.specs.Private.Pairs.{no_pair}
use Rattle.crush_pool.proofs.Pairs.{is_marked, mark_put, next_put}
use Rattle.crush_pool.proofs.exceptions.places_of.Goals as goal

pub loop-place-preserved : goal.loop-place-preserved
loop-place-preserved c =
    let pairs = c.args.pairs.now in
    let place = c.loop-place.place in
    let some : 0 < place = omega (arith, c.loop-place-test.true) in
    record {
      first = mark_put pairs c.loop-place.first c.set.new.self place some c.loop-place.auto.place c.loop-place.invariant.first (c.in_ok-set.ensures {u = tt}).ok;
      next = next_put c.loop-place.next.items pairs place c.get.result some c.loop-place.invariant.each c.loop-place.invariant.next
          (c.get.ensures ∙ is_marked pairs c.loop-place.first place (slice_index_or pairs (place - 1) no_pair).group c.requires c.loop-place.auto.place c.loop-place.invariant.first);
      each = length-set c.loop-place.next.items (place - 1) c.get.result ∙ c.loop-place.invariant.each;
    }

pub returns-clause-first : goal.returns-clause-first
returns-clause-first c group =
    let done : c.loop-place.place ≡ 0 = omega (arith, c.loop-place-test.false) in
    is_marked c.args.pairs.now c.loop-place.first 0 group c.requires (omega arith) (rw done at c.loop-place.invariant.first)
