use Rattle.std.proofs.Common.{◌≡◌, ◌++◌, length, map}
use Rattle.std.specs.List.{All}
use Rattle.std.specs.Vec.Iter.{into_iter_items, into_iter_len}
use Rattle.crush_map.specs.Map.{IsMap}
use Rattle.table_schema.specs.Found.{version_values}
use Rattle.tenant_tables.specs.Rows.{rows_of_versions}
use Rattle.tenant_tables.proofs.parts.versions_from.Given as goal

-- the rows so far are those of the versions so far
abbrev pub invariant-loop-row : goal.invariant-loop-row
invariant-loop-row l = record {
  all : l.yielded ++ into_iter_items l.row-iterator ≡ l.fn.rows.items;
  long : into_iter_len l.row-iterator ≡ length (into_iter_items l.row-iterator);
  count : length l.yielded ≡ length l.versions.items;
  read : map version_values l.yielded ≡ rows_of_versions 1 (map (λ v. v.value) l.versions.items);
  valid : All IsMap (map (λ v. v.value) l.versions.items);
}
