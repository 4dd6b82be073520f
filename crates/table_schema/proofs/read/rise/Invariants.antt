use Rattle.table_schema.proofs.Rising.{RisesTo}
use Rattle.table_schema.proofs.read.rise.Given as goal

abbrev pub invariant-loop-place : goal.invariant-loop-place
invariant-loop-place g l = record {
  rises : RisesTo (λ a b. g.T.TenantRow.before (g.T.TenantRow.values a) (g.T.TenantRow.values b)) l.place l.list;
}
