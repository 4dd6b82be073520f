use Rattle.std.proofs.Common.{inl, inr, sym, ◌∙◌}
use Rattle.table_schema.proofs.Looking.{missed_lost}
use Rattle.table_schema.proofs.refuse.look_after.Goals as goal

pub returns-in-Err-clause-open : goal.returns-in-Err-clause-open
returns-in-Err-clause-open g c clean fault there = absurd (elim c.missed.ensures.lost [ inl is ↦ (let no = sym is ∙ there in cc) | inr is ↦ (let no = sym is ∙ there in cc) ])

pub returns-in-Err-clause-fault : goal.returns-in-Err-clause-fault
returns-in-Err-clause-fault g c fault there = absurd (elim c.missed.ensures.lost [ inl is ↦ (let no = sym is ∙ there in cc) | inr is ↦ (let no = sym is ∙ there in cc) ])

pub returns-in-Err-clause-lost : goal.returns-in-Err-clause-lost
returns-in-Err-clause-lost g c clean lost = missed_lost _ _ c.missed.result c.missed.ensures.unseen.1 (c.in-Err.ensures.lost clean) lost
