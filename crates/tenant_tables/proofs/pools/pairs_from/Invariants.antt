use Rattle.std.proofs.Common.{◌≡◌, length, map, take}
use Rattle.table_schema.specs.Values.{exception_row}
use Rattle.tenant_tables.specs.Rows.{rows_of_pairs}
use Rattle.tenant_tables.proofs.pools.pairs_from.Given as goal

-- the rows so far are those of the pairs so far
abbrev pub invariant-loop-row : goal.invariant-loop-row
invariant-loop-row l = record {
  count : length l.pairs.items ≡ l.row-index;
  read : map exception_row (take l.row-index l.rows) ≡ rows_of_pairs l.pool 0 l.pairs.items;
}
