use Rattle.std.proofs.Common.{◌≡◌, ◌∷◌, ◌++◌, take}
use Rattle.tenant_tables.specs.declared.write.Write.TheVariants.{Raise}
use Rattle.tenant_tables.specs.Run.{pool_writes, exception_writes}
use Rattle.tenant_tables.proofs.commit.exception_writes_for.Given as goal

abbrev pub invariant-loop-exception : goal.invariant-loop-exception
invariant-loop-exception l = record {
  written : l.writes.items ≡ (Raise l.accepted.id l.accepted.epoch ∷ pool_writes l.accepted.id l.pool) ++ exception_writes l.accepted.id (take l.exception-index l.exceptions);
}
