use Rattle.std.proofs.Common.{◌≡◌, take, map}
use Rattle.table_schema.proofs.read.all_in.Given as goal

abbrev pub invariant-loop-row : goal.invariant-loop-row
invariant-loop-row g l = record {
  read : take l.row-index l.rows ≡ map g.T.TenantRow.values l.list.items;
}
