use Rattle.std.proofs.Common.{subst, ◌∙◌}
use Rattle.tenant_cache.specs.Ready.{HasNumber}
use Rattle.tenant_cache.proofs.NumberFacts.{renumbered}
use Rattle.tenant_cache.proofs.placing.number_for.Goals as goal

pub returns-in-Some-clause-number : goal.returns-in-Some-clause-number
returns-in-Some-clause-number g c = c.requires.known c.args.pool.now.parts.id c.in-Some.number c.args.pool.now c.in-Some.ensures.number c.requires.there

pub returns-clause-number : goal.returns-clause-number
returns-clause-number g c = subst (λ i. HasNumber c.give_number.new.cache i c.args.pool.now c.in_ok-number.number) (c.deref.ensures ∙ c.inventory.ensures) c.in_ok-number.ensures.number

-- the entry that was put beside the name has the numbers of before, and the new one
pub returns-clause-beside : goal.returns-clause-beside
returns-clause-beside g c =
    let given = subst (λ i. HasNumber c.give_number.new.cache i c.args.pool.now c.in_ok-number.number) (c.deref.ensures ∙ c.inventory.ensures) c.in_ok-number.ensures.number in
    renumbered c.args.cache.now c.give_number.new.cache c.args.kept.now c.keep_number.new.kept c.args.name.now c.args.ready.now c.args.pool.now c.in_ok-number.number
    c.in_ok-number.ensures.kept c.requires.known c.requires.there given c.keep_number.ensures
