use Rattle.std.proofs.Common.{◌≡◌, pos, false}
use Rattle.sqlite.specs.Held.{state}
use Rattle.sqlite.specs.State.{HasCleanDisk, Survives}
use Rattle.table_schema.specs.Layout.{receipts_table}
use Rattle.table_schema.specs.Holds.{of_tenant}
use Rattle.tenant_tables.specs.Pages.{Leaves}
use Rattle.tenant_tables.proofs.Pages.{pages_left}
use Rattle.tenant_tables.proofs.judge.judge_receipts.Given as goal

-- no row is changed, and the remaining receipts decide
abbrev pub invariant-loop-rest : goal.invariant-loop-rest
invariant-loop-rest g l =
    let old = state g.S.Store l.fn.tables.0 in
    let now = state g.S.Store l.tables.0 in
    let all = of_tenant receipts_table l.tenant.id old.now.trees in
    record {
      live : l.tables.1 ≡ false;
      number : l.tenant.epoch ≡ pos l.number;
      same : HasCleanDisk now → now.now ≡ old.now;
      crash : Survives old now (λ _. ⊥);
      leaves : HasCleanDisk now → Leaves all all l.number l.rest;
    }

abbrev pub decreases-loop-rest : goal.decreases-loop-rest
decreases-loop-rest g l = pages_left l.rest
