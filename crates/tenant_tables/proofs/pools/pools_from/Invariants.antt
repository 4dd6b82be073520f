use Rattle.std.proofs.Common.{◌≡◌, ◌++◌, length, map, true}
use Rattle.std.specs.List.{list_all}
use Rattle.std.specs.Vec.Iter.{into_iter_items, into_iter_len}
use Rattle.tenant_state.specs.Valid.{is_tenant_pool}
use Rattle.table_schema.specs.Values.{exception_row}
use Rattle.table_schema.specs.Found.{pool_values}
use Rattle.tenant_tables.specs.Rows.{row_of_pool, rows_of_exceptions}
use Rattle.tenant_tables.proofs.pools.pools_from.Given as goal

-- the rows so far are those of the pools so far, and the exceptions before the remaining ones are
-- their pairs
abbrev pub invariant-loop-row : goal.invariant-loop-row
invariant-loop-row l = record {
  all : l.yielded ++ into_iter_items l.row-iterator ≡ l.fn.rows.items;
  long : into_iter_len l.row-iterator ≡ length (into_iter_items l.row-iterator);
  read : map pool_values l.yielded ≡ map row_of_pool (map (λ p. p.value) l.pools.items);
  pairs : map exception_row l.exceptions ≡ rows_of_exceptions (map (λ p. p.value) l.pools.items) ++ map exception_row l.left;
  valid : list_all is_tenant_pool (map (λ p. p.value) l.pools.items) ≡ true;
}
