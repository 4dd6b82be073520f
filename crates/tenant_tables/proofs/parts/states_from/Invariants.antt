use Rattle.std.proofs.Common.{◌≡◌, ◌++◌, length, map, true}
use Rattle.std.specs.List.{list_all}
use Rattle.std.specs.Vec.Iter.{into_iter_items, into_iter_len}
use Rattle.tenant_state.specs.Valid.{is_device_state}
use Rattle.table_schema.specs.Values.{state_row}
use Rattle.tenant_tables.specs.Rows.{row_of_state}
use Rattle.tenant_tables.proofs.parts.states_from.Given as goal

-- the rows so far are those of the parts so far
abbrev pub invariant-loop-row : goal.invariant-loop-row
invariant-loop-row l = record {
  all : l.yielded ++ into_iter_items l.row-iterator ≡ l.fn.rows.items;
  long : into_iter_len l.row-iterator ≡ length (into_iter_items l.row-iterator);
  read : map state_row l.yielded ≡ map row_of_state l.states.items;
  valid : list_all is_device_state l.states.items ≡ true;
}
