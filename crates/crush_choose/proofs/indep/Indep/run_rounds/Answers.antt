use Rattle.std.proofs.Common.{◌≡◌, ℕ, map, false, ap, ◌∙◌, sym, arith, rules}
use Rattle.crush_choose.specs.Marks.{item_at}
use Rattle.crush_choose.specs.Private.Reachable.{indep_can_place}
use Rattle.crush_choose.specs.Indep.{indep, indep_try, after_rounds}
use Rattle.crush_choose.proofs.Rounds.{rounds_decided}
use Rattle.crush_choose.proofs.IndepTries.{indep_orderly}
use Rattle.crush_choose.proofs.Hopeless.{neither}
use Rattle.crush_choose.proofs.HopelessRounds.{place_same, ends_the_same}
use Rattle.crush_choose.proofs.indep.Indep.run_rounds.Goals as goal

pub returns-then-all_decided-clause-value : goal.returns-then-all_decided-clause-value
unfolding indep
returns-then-all_decided-clause-value c =
    place_same c.loop-round.marks _ (rounds_decided (indep_try c.args.scratch.now c.args.self.now.weights.now c.args.self.now.call.now) (indep_orderly c.args.scratch.now c.args.self.now.weights.now c.args.self.now.call.now) c.args.self.now.call.now.n c.loop-round.round c.args.self.now.call.now.tries c.loop-round.marks (omega arith) c.loop-round.invariant.marks (sym c.all_decided.ensures ∙ c.if-all_decided.true))

pub returns-clause-value : goal.returns-clause-value
unfolding indep
returns-clause-value c =
    let all : c.loop-round.round ≡ c.args.self.now.call.now.tries = omega arith in
    place_same c.loop-round.marks _ (c.loop-round.invariant.marks ∙ ap (λ (n : ℕ). after_rounds (indep_try c.args.scratch.now c.args.self.now.weights.now c.args.self.now.call.now) c.args.self.now.call.now.n n) all)

pub returns-then-not-can_place-clause-value : goal.returns-then-not-can_place-clause-value
returns-then-not-can_place-clause-value c =
    let fails : c.can_place.result ≡ false = search rules in
    let cannot : indep_can_place c.args.scratch.now c.args.self.now.weights.now c.args.self.now.call.now (map item_at c.loop-round.marks) ≡ false = neither c.can_place.result _ _ (rw c.tables-tables.ensures at c.can_place.ensures) fails in
    ends_the_same c.a_pick_is_pickable.ensures.pickable c.args.scratch.now c.args.self.now.weights.now c.args.self.now.call.now c.loop-round.round c.loop-round.marks (omega arith) c.loop-round.invariant.marks cannot
