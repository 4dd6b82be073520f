-- Where an allocation fails, the store below the connection leaves what it left before.
use Rattle.std.proofs.Common.{◌∙◌, ap, arith, subst}
use Rattle.sqlite.specs.Held.{state}
use Rattle.tenant_store.specs.Shown.{IsHonest}
use Rattle.table_service.proofs.service.service_over.Goals as goal

pub returns-in_default-clause-honest : goal.returns-in_default-clause-honest
returns-in_default-clause-honest g c clean = c.close.ensures.honest (omega (arith, clean, c.into_store.ensures.quiet.clean))

pub returns-in_default-clause-left : goal.returns-in_default-clause-left
returns-in_default-clause-left g c trees left = subst (λ conn. (state g.S.Store conn).may_leave trees) c.close.ensures.same (c.into_store.ensures.quiet.outcomes trees left)

pub returns-in-Err-clause-honest : goal.returns-in-Err-clause-honest
returns-in-Err-clause-honest g c clean = subst (IsHonest g.S.Store) c.in-Err.ensures.refused (c.close-in-Err.ensures.honest (omega (arith, clean, c.into_store-in-Err.ensures.quiet.clean)))

pub returns-in-Err-clause-left : goal.returns-in-Err-clause-left
returns-in-Err-clause-left g c trees left =
    subst (λ conn. (state g.S.Store conn).may_leave trees) (c.close-in-Err.ensures.same ∙ ap (λ s. s.0) c.in-Err.ensures.refused) (c.into_store-in-Err.ensures.quiet.outcomes trees left)
