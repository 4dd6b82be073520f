use Rattle.std.proofs.Common.{◌≡◌, ◌≤◌, ◌+◌, ◌∷◌, [], Some, ap, sym, ◌∙◌, false, length, arith, rules, length-append}
use Rattle.crush_choose.specs.Marks.{items_of, leaves_of}
use Rattle.crush_choose.specs.Firstn.{mark_of, mark_beside}
use Rattle.crush_choose.specs.Private.Reachable.{firstn_can_place}
use Rattle.crush_choose.proofs.Answering.{firstn_is, firstn_only, firstn_rows}
use Rattle.crush_choose.proofs.Hopeless.{slots_end}
use Rattle.crush_choose.proofs.Placing.{slots_more, mark_is}
use Rattle.crush_choose.proofs.firstn.choose_firstn.Goals as goal

pub loop-rep-preserved : goal.loop-rep-preserved
loop-rep-preserved c =
    let next = mark_of c.args.tables.now c.args.weights.now c.args.call.now in
    let made = rw (c.in-Mark.is, c.loop-rep.invariant.fits) at c.decide_with_room-decision.ensures.value in
    let beside : c.in-Mark.mark ≡ mark_beside c.args.tables.now c.args.weights.now c.args.call.now c.loop-rep.items c.loop-rep.leaves c.loop-rep.rep = search (rules, made) in
    let is = mark_is c.args.tables.now c.args.weights.now c.args.call.now c.loop-rep.rep c.loop-rep.items c.loop-rep.leaves c.in-Mark.mark c.loop-rep.invariant.items c.loop-rep.invariant.leaves beside in
    let fits = rw c.in-Mark.is at c.decide_with_room-decision.ensures.room in
    let room : length c.loop-rep.items + length (items_of (c.in-Mark.mark ∷ [])) ≤ c.args.call.now.room = search (rules, fits) in
    record {
      items = slots_more (λ s. Some s.item) next c.loop-rep.rep c.loop-rep.items c.add.new.items c.in-Mark.mark c.loop-rep.invariant.items is c.add.ensures.items;
      leaves = slots_more (λ s. Some s.leaf) next c.loop-rep.rep c.loop-rep.leaves c.add.new.leaves c.in-Mark.mark c.loop-rep.invariant.leaves is c.add.ensures.leaves;
      room = rw c.add.ensures.items (rw length-append room);
      fits = c.decide_with_room-decision.ensures.same ∙ c.loop-rep.invariant.fits;
    }

pub returns-in-Hopeless-clause-items : goal.returns-in-Hopeless-clause-items
returns-in-Hopeless-clause-items c =
    let none = rw (c.in-Hopeless.is, c.loop-rep.invariant.fits) at c.decide_with_room-decision.ensures.value in
    let cannot : firstn_can_place c.args.tables.now c.args.weights.now c.args.call.now c.loop-rep.items c.loop-rep.leaves ≡ false = search (rules, none) in
    slots_end c.a_pick_is_pickable.ensures.pickable (λ s. Some s.item) c.args.tables.now c.args.weights.now c.args.call.now c.loop-rep.rep c.loop-rep.items c.loop-rep.leaves c.loop-rep.items (omega arith) c.loop-rep.invariant.items c.loop-rep.invariant.leaves cannot c.loop-rep.invariant.items

pub returns-in-Hopeless-clause-leaves : goal.returns-in-Hopeless-clause-leaves
returns-in-Hopeless-clause-leaves c =
    let none = rw (c.in-Hopeless.is, c.loop-rep.invariant.fits) at c.decide_with_room-decision.ensures.value in
    let cannot : firstn_can_place c.args.tables.now c.args.weights.now c.args.call.now c.loop-rep.items c.loop-rep.leaves ≡ false = search (rules, none) in
    slots_end c.a_pick_is_pickable.ensures.pickable (λ s. Some s.leaf) c.args.tables.now c.args.weights.now c.args.call.now c.loop-rep.rep c.loop-rep.items c.loop-rep.leaves c.loop-rep.leaves (omega arith) c.loop-rep.invariant.items c.loop-rep.invariant.leaves cannot c.loop-rep.invariant.leaves

pub returns-in-Hopeless-clause-there : goal.returns-in-Hopeless-clause-there
returns-in-Hopeless-clause-there c = firstn_is c.args.tables.now c.args.weights.now c.args.call.now

pub returns-in-Hopeless-clause-only : goal.returns-in-Hopeless-clause-only
returns-in-Hopeless-clause-only c = λ marks is.
    let answer = sym (firstn_only c.args.tables.now c.args.weights.now c.args.call.now marks is) in
    let none = rw (c.in-Hopeless.is, c.loop-rep.invariant.fits) at c.decide_with_room-decision.ensures.value in
    let cannot : firstn_can_place c.args.tables.now c.args.weights.now c.args.call.now c.loop-rep.items c.loop-rep.leaves ≡ false = search (rules, none) in
    let items = slots_end c.a_pick_is_pickable.ensures.pickable (λ s. Some s.item) c.args.tables.now c.args.weights.now c.args.call.now c.loop-rep.rep c.loop-rep.items c.loop-rep.leaves c.loop-rep.items (omega arith) c.loop-rep.invariant.items c.loop-rep.invariant.leaves cannot c.loop-rep.invariant.items in
    let leaves = slots_end c.a_pick_is_pickable.ensures.pickable (λ s. Some s.leaf) c.args.tables.now c.args.weights.now c.args.call.now c.loop-rep.rep c.loop-rep.items c.loop-rep.leaves c.loop-rep.leaves (omega arith) c.loop-rep.invariant.items c.loop-rep.invariant.leaves cannot c.loop-rep.invariant.leaves in
    (items ∙ ap items_of answer, leaves ∙ ap leaves_of answer)

pub returns-clause-there : goal.returns-clause-there
returns-clause-there c = firstn_is c.args.tables.now c.args.weights.now c.args.call.now

pub returns-clause-only : goal.returns-clause-only
returns-clause-only c = λ marks is.
    let all : c.loop-rep.rep ≡ c.args.call.now.numrep = omega arith in (
      firstn_rows items_of c.loop-rep.items c.args.tables.now c.args.weights.now c.args.call.now c.loop-rep.rep marks c.loop-rep.invariant.items all is,
      firstn_rows leaves_of c.loop-rep.leaves c.args.tables.now c.args.weights.now c.args.call.now c.loop-rep.rep marks c.loop-rep.invariant.leaves all is,
    )
