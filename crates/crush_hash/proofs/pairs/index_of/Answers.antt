use Rattle.std.proofs.Common.{arith}
use Rattle.crush_hash.proofs.Differing.{place_from_index, index_is}
use Rattle.crush_hash.proofs.pairs.index_of.Goals as goal

pub loop-at-init : goal.loop-at-init
loop-at-init c = record {
  within = omega arith;
  higher = λ j at low. (let r = place_from_index c.args.pairs.now c.requires j low in omega (arith, at));
}

pub returns-else-pairs-at-clause-value : goal.returns-else-pairs-at-clause-value
returns-else-pairs-at-clause-value c =
    index_is c.args.pairs.now c.args.place c.loop-at.at c.requires c.loop-at.invariant.within c.loop-at.invariant.higher (λ pos. c.if-pairs-at.false)
