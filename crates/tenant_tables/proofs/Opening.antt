-- Connections that are opened again.
use Rattle.std.proofs.Common.{◌≡◌, ℕ, [], ap, subst, Bool, true, false, IsTrue, true≢false, refl, sym, ◌∙◌}
use Rattle.std.specs.List.{AllByRecursion}
use Rattle.sqlite_trees.specs.declared.store.Shape.TheVariants.{Table as TableShape}
use Rattle.sqlite_trees.specs.Tree.{Trees}
use Rattle.sqlite_trees.specs.View.{IsShaped}
use Rattle.sqlite.specs.Store.{Ghosts}
use Rattle.sqlite.specs.Table.{Table}
use Rattle.sqlite.specs.Effect.{Database, IsDatabase}
use Rattle.table_schema.specs.declared.schema.Layout.{Layout}
use Rattle.table_schema.specs.Layout.{store_schema, IsStoreSchema, receipts_tree, pools_tree, exceptions_tree, tenants_table, maps_table, devices_table, pools_table, receipts_table, exceptions_table, tables_of_tenants}
use Rattle.table_schema.specs.Holds.{tree_of, rows_in, AreTables}
use Rattle.table_schema.proofs.Places.{places}
use Rattle.tenant_tables.specs.Opened.{AreTablesAt, HasVersion, IsBare, Migrates, IsMigrated}

-- a store that is not broken is open
pub open_store : {S : Type 0} (g : Ghosts S) → ((s : S) → (g.view s).is_open ≡ false → IsTrue (g.view s).is_broken) → (s : S) → (g.view s).is_broken ≡ false → IsTrue (g.view s).is_open
open_store g shut s sound = go (g.view s).is_open refl
  where
    go : (b : Bool) → (g.view s).is_open ≡ b → IsTrue (g.view s).is_open
    go true e = e
    go false e = absurd (true≢false (sym (shut s e) ∙ sound))

-- rows that are stored by rowid in the trees are so under the names of their tables
pub named_tables : (layout : Layout) (db : Database) → IsDatabase db → db.schema ≡ store_schema layout → AreTablesAt layout db.trees → AreTables db.trees
named_tables layout db sound has at =
    let p = places layout db sound has in
    let put : (table : Table) (n : ℕ) → tree_of db.trees table.name ≡ n → IsShaped TableShape (db.trees n) → IsShaped TableShape (rows_in table db.trees) = λ table n is shaped. subst (IsShaped TableShape) (ap db.trees (sym is)) shaped in
    record {
      tenants = put tenants_table 1 p.tenants at.0;
      others = (
        put maps_table 4 p.maps at.1.0,
        (
          put devices_table 6 p.devices at.1.1.0,
          (
            put pools_table (pools_tree layout) p.pools at.1.1.1.0,
            (put receipts_table (receipts_tree layout) p.receipts at.1.1.1.1.0, (put exceptions_table (exceptions_tree layout) p.exceptions at.1.1.1.1.1.0, tt)),
          ),
        ),
      );
    }

-- bare tables are bare in each connection that shows the same trees
pub bare_again : (made now : Database) → IsBare made → now.trees ≡ made.trees → IsStoreSchema now.schema → IsDatabase now → IsBare now
bare_again made now bare same schema sound = record {
  schema = schema;
  version = subst (HasVersion 2) (sym same) bare.version;
  tenants = subst (λ (t : Trees). rows_in tenants_table t ≡ []) (sym same) bare.tenants;
  others = subst (λ (t : Trees). AllByRecursion (λ table. rows_in table t ≡ []) tables_of_tenants) (sym same) bare.others;
  sound = sound;
}

pub migrated_again : (old made now : Database) → IsMigrated old made → now.trees ≡ made.trees → IsStoreSchema now.schema → IsDatabase now → IsMigrated old now
migrated_again old made now it same schema sound = record { schema = schema; first = it.first; rows = subst (Migrates old.trees) (sym same) it.rows; sound = sound }
