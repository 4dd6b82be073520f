use Rattle.std.proofs.Common.{◌≡◌, ◌++◌, length, map, string_bytes, true}
use Rattle.std.specs.List.{list_all}
use Rattle.std.specs.Vec.Iter.{into_iter_items, into_iter_len}
use Rattle.tenant_state.specs.Valid.{is_receipt}
use Rattle.table_schema.specs.Found.{receipt_values}
use Rattle.tenant_tables.specs.Rows.{row_of_receipt}
use Rattle.tenant_tables.proofs.state.receipts_from.Given as goal

-- the rows so far are those of the receipts so far
abbrev pub invariant-loop-row : goal.invariant-loop-row
invariant-loop-row l = record {
  all : l.yielded ++ into_iter_items l.row-iterator ≡ l.fn.rows.items;
  long : into_iter_len l.row-iterator ≡ length (into_iter_items l.row-iterator);
  read : map receipt_values l.yielded ≡ map row_of_receipt (map (λ e. (string_bytes e.0, e.1.value)) l.receipts.items);
  valid : list_all is_receipt (map (λ e. (string_bytes e.0, e.1.value)) l.receipts.items) ≡ true;
}
