use Rattle.std.proofs.Common.{None, map, refl, ◌∙◌, arith}
use Rattle.std.proofs.lemmas.List.{take-replicate}
use Rattle.crush_choose.specs.Marks.{item_at, leaf_at}
use Rattle.crush_choose.specs.Indep.{indep}
use Rattle.crush_choose.proofs.Answering.{indep_is, indep_rows}
use Rattle.crush_choose.proofs.HopelessRounds.{same_items, same_leaves}
use Rattle.crush_choose.proofs.indep.choose_indep.Goals as goal
use Rattle.crush_choose.specs.declared.limits.TheConstants.{SIZE_LIMIT}

pub run_rounds-requires-clause-places : goal.run_rounds-requires-clause-places
run_rounds-requires-clause-places c = take-replicate c.args.call.now.n SIZE_LIMIT None (omega arith)

pub returns-clause-items : goal.returns-clause-items
returns-clause-items c = c.fill.ensures.items ∙ same_items c.run_rounds.new.marks (indep c.args.tables.now c.args.weights.now c.args.call.now) (rw c.requires.fits at c.run_rounds.ensures.value)

pub returns-clause-leaves : goal.returns-clause-leaves
returns-clause-leaves c = c.fill.ensures.leaves ∙ same_leaves c.run_rounds.new.marks (indep c.args.tables.now c.args.weights.now c.args.call.now) (rw c.requires.fits at c.run_rounds.ensures.value)

pub returns-clause-there : goal.returns-clause-there
returns-clause-there c = indep_is c.args.tables.now c.args.weights.now c.args.call.now

pub returns-clause-only : goal.returns-clause-only
returns-clause-only c = λ marks is.
    let answer = indep c.args.tables.now c.args.weights.now c.args.call.now in (
      indep_rows (λ ms. map item_at ms) c.fill.new.items c.args.tables.now c.args.weights.now c.args.call.now answer marks (c.fill.ensures.items ∙ same_items c.run_rounds.new.marks answer (rw c.requires.fits at c.run_rounds.ensures.value)) refl is,
      indep_rows (λ ms. map leaf_at ms) c.fill.new.leaves c.args.tables.now c.args.weights.now c.args.call.now answer marks (c.fill.ensures.leaves ∙ same_leaves c.run_rounds.new.marks answer (rw c.requires.fits at c.run_rounds.ensures.value)) refl is,
    )
