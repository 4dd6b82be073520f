use Rattle.std.proofs.Common.{inl, inr}
use Rattle.sqlite.specs.Held.{state}
use Rattle.tenant_store.proofs.Opening.{opened, replaced}
use Rattle.tenant_store.proofs.store.Store.open.Goals as goal

pub returns-in-Ok-clause-same : goal.returns-in-Ok-clause-same
returns-in-Ok-clause-same g c clean =
    opened (state g.S.Store c.args.conn).now (state g.S.Store c.in-Ok.tables.0).now c.in-Ok.ensures.known (c.in-Ok.ensures.made clean) (c.in-Ok.ensures.adopted clean) (c.in-Ok.ensures.migrated clean)

pub returns-in-Err-clause-crash : goal.returns-in-Err-clause-crash
returns-in-Err-clause-crash g c clean trees left = elim (c.in-Err.ensures.crash clean trees left) [
  | inl was ↦ inl was
  | inr set ↦ inr (replaced (state g.S.Store c.args.conn).now trees set)
]
