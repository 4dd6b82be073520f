use Rattle.std.proofs.Common.{◌≡◌, map, take}
use Rattle.table_schema.specs.Values.{exception_row}
use Rattle.tenant_tables.specs.Rows.{rows_of_pairs}
use Rattle.tenant_tables.proofs.change.all_pair_values.Given as goal

-- the values so far are those of the pairs so far
abbrev pub invariant-loop-place : goal.invariant-loop-place
invariant-loop-place l = record {
  made : map exception_row l.values.items ≡ rows_of_pairs l.pool 0 (take l.place l.pairs);
}
