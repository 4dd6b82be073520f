use Rattle.std.proofs.Common.{◌≡◌, ◌∷◌, take}
use Rattle.tenant_tables.specs.declared.write.Write.TheVariants.{Raise}
use Rattle.tenant_tables.specs.Run.{state_writes}
use Rattle.tenant_tables.proofs.commit.writes_for.Given as goal

abbrev pub invariant-loop-state : goal.invariant-loop-state
invariant-loop-state l = record {
  written : l.writes.items ≡ Raise l.accepted.id l.accepted.epoch ∷ state_writes l.accepted.id (take l.state-index l.states);
}
