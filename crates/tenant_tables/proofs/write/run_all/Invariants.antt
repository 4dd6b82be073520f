use Rattle.std.proofs.Common.{◌≡◌, take}
use Rattle.sqlite.specs.Held.{state}
use Rattle.sqlite.specs.State.{HasCleanDisk, Survives}
use Rattle.tenant_tables.specs.Run.{Inside}
use Rattle.tenant_tables.proofs.write.run_all.Given as goal

abbrev pub invariant-loop-write : goal.invariant-loop-write
invariant-loop-write g l = record {
  same_reference : l.tx.conn.ghost_name ≡ l.initial.tx.conn.ghost_name;
  survives : Survives (state g.S.Store l.fn.conn) (state g.S.Store l.tx.conn.now) (λ _. ⊥);
  inside : HasCleanDisk (state g.S.Store l.tx.conn.now) → Inside g.S.Store (take l.write-index l.writes) l.fn.conn l.tx.conn.now;
}
