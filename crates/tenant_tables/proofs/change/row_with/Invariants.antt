use Rattle.std.proofs.Common.{◌≡◌, ◌≢◌, ◌++◌, length, map, pos}
use Rattle.std.specs.Vec.Iter.{into_iter_items, into_iter_len}
use Rattle.table_schema.specs.sqlite_rules.specs.Lists.{Has}
use Rattle.table_schema.specs.sqlite_value.specs.Order.{Row, column}
use Rattle.table_schema.specs.sqlite_value.specs.declared.value.Value.TheVariants.{Int}
use Rattle.table_schema.specs.Found.{pool_values}
use Rattle.tenant_tables.proofs.change.row_with.Given as goal

-- none of the rows so far has the id
abbrev pub invariant-loop-row : goal.invariant-loop-row
invariant-loop-row l = record {
  all : l.yielded ++ into_iter_items l.row-iterator ≡ l.fn.rows.items;
  long : into_iter_len l.row-iterator ≡ length (into_iter_items l.row-iterator);
  others : (row : Row) → Has (map pool_values l.yielded) row → column row 0 ≢ Int (pos l.id);
}
