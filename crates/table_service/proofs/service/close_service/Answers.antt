-- The connection is that of the store below the service.
use Rattle.std.proofs.Common.{◌∙◌, ap, subst}
use Rattle.tenant_store.specs.Shown.{IsHonest}
use Rattle.table_service.proofs.service.close_service.Goals as goal

pub returns-clause-same : goal.returns-clause-same
returns-clause-same g c = c.close.ensures.same ∙ ap (λ s. s.0) (c.into_below-store.ensures ∙ c.into_store.ensures)

pub returns-clause-honest : goal.returns-clause-honest
returns-clause-honest g c clean = subst (IsHonest g.S.Store) (c.into_below-store.ensures ∙ c.into_store.ensures) (c.close.ensures.honest clean)
