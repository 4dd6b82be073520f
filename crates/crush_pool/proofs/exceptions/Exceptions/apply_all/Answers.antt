use Rattle.std.proofs.Common.{◌≡◌, ◌<◌, ◌+◌, ℕ, List, drop, length, slice_index_or, ap, ◌∙◌, arith}
use Rattle.std.proofs.lemmas.List.{get_or_default}
use Rattle.crush_choose.specs.Marks.{Slot}
use Rattle.crush_pool.specs.Exceptions.{after_pair, after_pairs, excepted}
use Rattle.crush_pool.specs.Private.Pairs.{first_from, no_pair}
use Rattle.crush_pool.specs.declared.exceptions.Pair.{Pair}
use Rattle.crush_pool.proofs.Pairs.{excepted_more, first_is, none_skipped}
use Rattle.crush_pool.proofs.exceptions.Exceptions.apply_all.Goals as goal

pub loop-place-init : goal.loop-place-init
loop-place-init c = record {
  own = first_is c.args.self.now c.args.group 0 c.first_of-place.result c.first_of-place.ensures;
  same = ap (λ (pairs : List Pair). after_pairs c.args.tables.now c.args.weights.now pairs c.args.slots.now) (none_skipped c.args.self.now c.args.group 0 c.first_of-place.result c.first_of-place.ensures);
}

pub loop-place-preserved : goal.loop-place-preserved
loop-place-preserved c =
    let pairs = c.args.self.now in
    let place = c.loop-place.place in
    let count : c.len.result ≡ length pairs = c.len.ensures ∙ (c.self.inside.pairs.ok.0 ∙ ap (λ (all : List Pair). length all) c.self.view_is) in
    let low : place < length pairs = omega (arith, c.loop-place-test.true, count) in
    let own = c.loop-place.invariant.own low in
    let is : c.index.result.now ≡ slice_index_or pairs place no_pair =
    c.index.ensures ∙ (ap (λ (all : List Pair). slice_index_or all place c.index.result.now) c.self.view_is ∙ get_or_default pairs place c.index.result.now no_pair low) in
    record {
      own = first_is pairs c.args.group (place + 1) c.next_of-place.result (c.next_of-place.ensures ∙ ap (λ (group : ℕ). first_from pairs group (place + 1)) own);
      same =
          ap (λ (slots : List Slot). excepted c.args.tables.now c.args.weights.now (drop c.next_of-place.result pairs) c.args.group slots) (c.apply.ensures ∙ ap (λ (p : Pair). after_pair c.args.tables.now c.args.weights.now p c.loop-place.slots) is)
          ∙ (excepted_more c.args.tables.now c.args.weights.now pairs c.args.group c.loop-place.slots place c.next_of-place.result low own c.next_of-place.ensures ∙ c.loop-place.invariant.same);
    }
