-- What is said of the store that was opened is said of the service over it; and a crash then leaves
-- the states that the connection had.
use Rattle.std.proofs.Common.{◌∙◌, ap, inl, inr, subst, sym}
use Rattle.sqlite.specs.Held.{state}
use Rattle.sqlite.specs.State.{HasCleanDisk}
use Rattle.tenant_store.specs.table_schema.specs.sqlite_trees.specs.Tree.{Trees}
use Rattle.tenant_core.specs.States.{Same}
use Rattle.tenant_store.specs.tenant_tables.specs.Rows.{StandsFor, StatesIn}
use Rattle.tenant_store.specs.Laws.{left_alone}
use Rattle.tenant_store.specs.Shown.{IsHonest}
use Rattle.table_service.proofs.service.open_service.Goals as goal

pub returns-in-Ok-service_over-clause-works : goal.returns-in-Ok-service_over-clause-works
returns-in-Ok-service_over-clause-works g c = ap (λ s. s.1) c.in-Ok-service_over.ensures.made ∙ c.in-Ok.ensures.live

pub returns-in-Ok-service_over-clause-clean : goal.returns-in-Ok-service_over-clause-clean
returns-in-Ok-service_over-clause-clean g c clean = c.in-Ok.ensures.clean (subst (λ s. HasCleanDisk (state g.S.Store s.0)) c.in-Ok-service_over.ensures.made clean)

pub returns-in-Ok-service_over-clause-honest : goal.returns-in-Ok-service_over-clause-honest
returns-in-Ok-service_over-clause-honest g c clean =
    let made = c.in-Ok-service_over.ensures.made in
    subst (IsHonest g.S.Store) (sym made) (c.in-Ok.ensures.honest (subst (λ s. HasCleanDisk (state g.S.Store s.0)) made clean))

pub returns-in-Ok-service_over-clause-same : goal.returns-in-Ok-service_over-clause-same
returns-in-Ok-service_over-clause-same g c clean =
    let made = c.in-Ok-service_over.ensures.made in
    subst (λ s. Same (StatesIn (state g.S.Store c.args.conn).now) (StandsFor (state g.S.Store s.0).now.trees)) (sym made)
    (c.in-Ok.ensures.same (subst (λ s. HasCleanDisk (state g.S.Store s.0)) made clean))

pub returns-in-Ok-service_over-clause-crash : goal.returns-in-Ok-service_over-clause-crash
returns-in-Ok-service_over-clause-crash g c clean trees left =
    let made = c.in-Ok-service_over.ensures.made in
    let early = subst (λ s. HasCleanDisk (state g.S.Store s.0)) made clean in
    let was = subst (λ s. (state g.S.Store s.0).may_leave trees) made left in
    let ready = (c.in-Ok.ensures.honest early).ready c.in-Ok.ensures.live in
    subst (λ (db : Trees). Same (StatesIn (state g.S.Store c.args.conn).now) (StandsFor db)) (sym (left_alone g.S.Store g.met.S.Store.settled c.in-Ok.store ready trees was)) (c.in-Ok.ensures.same early)

-- there is no memory for the service
pub returns-in-Err-service_over-clause-refused : goal.returns-in-Err-service_over-clause-refused
returns-in-Err-service_over-clause-refused g c clean trees left =
    let honest = c.in-Err-service_over.ensures.honest clean in
    let ready = honest.ready c.in-Ok.ensures.live in
    inr (subst (λ (db : Trees). Same (StatesIn (state g.S.Store c.args.conn).now) (StandsFor db)) (sym (left_alone g.S.Store g.met.S.Store.settled c.in-Ok.store ready trees (c.in-Err-service_over.ensures.left trees left)))
    (c.in-Ok.ensures.same honest.clean))

-- the tables were refused
pub returns-in-Err-clause-refused : goal.returns-in-Err-clause-refused
returns-in-Err-clause-refused g c clean trees left =
    elim (c.in-Err.ensures.crash clean trees left) [
      | inl was ↦ inl was
      | inr replaced ↦ inr replaced.same
    ]
