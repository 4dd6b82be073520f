use Rattle.std.proofs.Common.{◌≡◌, ◌↔◌, map, length}
use Rattle.table_schema.specs.Layout.{needed}
use Rattle.table_schema.proofs.columns.are_needed.Given as goal

-- all columns are as expected exactly where the remaining ones are as the remaining expected ones
abbrev pub invariant-loop-rest : goal.invariant-loop-rest
invariant-loop-rest l = record {
  same : (l.columns ≡ map (λ row. needed row.0.now row.1) l.expected) ↔ (l.left ≡ map (λ row. needed row.0.now row.1) l.rest);
}

abbrev pub decreases-loop-rest : goal.decreases-loop-rest
decreases-loop-rest l = length l.rest
