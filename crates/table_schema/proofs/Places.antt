-- Where the trees of the tables are.
use Rattle.std.proofs.Common.{◌≡◌, ◌≢◌, ◌<◌, ℕ, ◌-◌, ◌+◌, pos, List, [], ◌∷◌, find, option_map, unwrap_or, Some, Bool, true, false, cond, codes, refl, ap, ◌∙◌, arith}
use Rattle.std.specs.List.{AllZip}
use Rattle.sqlite_value.specs.declared.value.Value.TheVariants.{Int, Text as Words}
use Rattle.sqlite_value.specs.declared.keys.Collation.TheVariants.{Binary}
use Rattle.sqlite_value.specs.Order.{Row, column, value_cmp}
use Rattle.sqlite_trees.specs.Tree.{Trees}
use Rattle.sqlite_trees.specs.Objects.{number_in}
use Rattle.sqlite_sql.specs.Ops.{binary}
use Rattle.sqlite_schema.specs.Rules.{equal}
use Rattle.sqlite_schema.specs.declared.schema.Table.{Table}
use Rattle.sqlite_schema.specs.declared.schema.Schema.{Schema}
use Rattle.sqlite_catalog.specs.Listing.{IsTableRow}
use Rattle.sqlite.specs.Effect.{Database, IsDatabase}
use Rattle.sqlite.specs.Program.{overlay}
use Rattle.table_schema.specs.declared.schema.Layout.{Layout}
use Rattle.table_schema.specs.declared.schema.Layout.TheVariants.{Compact, Gapped}
use Rattle.table_schema.specs.Layout.{store_schema, first_schema, receipts_tree, pools_tree, exceptions_tree}
use Rattle.table_schema.specs.Holds.{tree_of}

-- the tree of the first of the tables with the name
abbrev tree_among : List Table → List ℕ → ℕ
tree_among tables name = unwrap_or (option_map (λ (t : Table). t.tree) (find (λ (t : Table). equal Binary (Words t.name) (Words name)) tables)) 0

number_is : (n : ℕ) → number_in (Int (pos (n + 1))) - 1 ≡ n
number_is n = omega arith

listed : (name : List ℕ) (rows : List Row) (tables : List Table) → AllZip IsTableRow rows tables
    → unwrap_or (option_map (λ row. number_in (column row 0) - 1) (find (λ row. equal Binary (column row 2) (Words name)) rows)) 0 ≡ tree_among tables name
listed name [] [] zip = refl
listed name [] (t ∷ tables) zip = absurd zip
listed name (r ∷ rows) [] zip = absurd zip
listed name (r ∷ rows) (t ∷ tables) zip =
    let it = zip.0.described in
    let more = listed name rows tables zip.1 in
    rw (it.name_is) (go (equal Binary (Words t.name) (Words name)) (ap (λ v. number_in v - 1) it.id ∙ number_is t.tree) more)
  where
    go : (b : Bool) → number_in (column r 0) - 1 ≡ t.tree
        → unwrap_or (option_map (λ row. number_in (column row 0) - 1) (find (λ row. equal Binary (column row 2) (Words name)) rows)) 0 ≡ tree_among tables name
        → unwrap_or (option_map (λ row. number_in (column row 0) - 1) (cond b (Some r) (find (λ row. equal Binary (column row 2) (Words name)) rows))) 0
        ≡ unwrap_or (option_map (λ (t : Table). t.tree) (cond b (Some t) (find (λ (t : Table). equal Binary (Words t.name) (Words name)) tables))) 0
    go true here more = here
    go false here more = more

tree_is : (schema : Schema) (db : Database) (name : List ℕ) → IsDatabase db → db.schema ≡ schema → tree_of db.trees name ≡ tree_among schema.tables name
tree_is schema db name sound has = listed name _ db.schema.tables sound.lists.listed.tables ∙ ap (λ (s : Schema). tree_among s.tables name) has

-- where a file with schema 2 has its tables
pub record Places (layout : Layout) (db : Trees) : Type 0 where
  pub info : tree_of db (codes "schema_info") ≡ 0
  pub tenants : tree_of db (codes "tenants") ≡ 1
  pub sequence : tree_of db (codes "sqlite_sequence") ≡ 3
  pub maps : tree_of db (codes "maps") ≡ 4
  pub devices : tree_of db (codes "devices") ≡ 6
  pub pools : tree_of db (codes "pools_2") ≡ pools_tree layout
  pub receipts : tree_of db (codes "receipts") ≡ receipts_tree layout
  pub exceptions : tree_of db (codes "exceptions") ≡ exceptions_tree layout

pub places : (layout : Layout) (db : Database) → IsDatabase db → db.schema ≡ store_schema layout → Places layout db.trees
unfolding binary value_cmp lib.Ieee.is_nan lib.Ieee.lt
places layout db sound has = record {
  info = tree_is (store_schema layout) db (codes "schema_info") sound has;
  tenants = tree_is (store_schema layout) db (codes "tenants") sound has;
  sequence = tree_is (store_schema layout) db (codes "sqlite_sequence") sound has;
  maps = tree_is (store_schema layout) db (codes "maps") sound has;
  devices = tree_is (store_schema layout) db (codes "devices") sound has;
  pools = tree_is (store_schema layout) db (codes "pools_2") sound has;
  receipts = tree_is (store_schema layout) db (codes "receipts") sound has;
  exceptions = tree_is (store_schema layout) db (codes "exceptions") sound has;
}

-- where a file with schema 1 has its tables
pub record FirstPlaces (db : Trees) : Type 0 where
  pub info : tree_of db (codes "schema_info") ≡ 0
  pub tenants : tree_of db (codes "tenants") ≡ 1
  pub sequence : tree_of db (codes "sqlite_sequence") ≡ 3
  pub maps : tree_of db (codes "maps") ≡ 4
  pub devices : tree_of db (codes "devices") ≡ 6
  pub pools : tree_of db (codes "pools") ≡ 8
  pub receipts : tree_of db (codes "receipts") ≡ 11

pub first_places : (db : Database) → IsDatabase db → db.schema ≡ first_schema → FirstPlaces db.trees
unfolding binary value_cmp lib.Ieee.is_nan lib.Ieee.lt
first_places db sound has = record {
  info = tree_is first_schema db (codes "schema_info") sound has;
  tenants = tree_is first_schema db (codes "tenants") sound has;
  sequence = tree_is first_schema db (codes "sqlite_sequence") sound has;
  maps = tree_is first_schema db (codes "maps") sound has;
  devices = tree_is first_schema db (codes "devices") sound has;
  pools = tree_is first_schema db (codes "pools") sound has;
  receipts = tree_is first_schema db (codes "receipts") sound has;
}

-- No two tables are in one tree. Those up to devices are below 7.
pub record Apart (layout : Layout) : Type 0 where
  pub receipts : (tree : ℕ) → tree < 7 → tree ≢ receipts_tree layout
  pub pools : (tree : ℕ) → tree < 7 → tree ≢ pools_tree layout
  pub exceptions : (tree : ℕ) → tree < 7 → tree ≢ exceptions_tree layout
  pub receipts-pools : receipts_tree layout ≢ pools_tree layout
  pub receipts-exceptions : receipts_tree layout ≢ exceptions_tree layout
  pub pools-exceptions : pools_tree layout ≢ exceptions_tree layout

pub apart : (layout : Layout) → Apart layout
apart Compact = record {
  receipts = λ tree low same. absurd (omega (arith, low, same));
  pools = λ tree low same. absurd (omega (arith, low, same));
  exceptions = λ tree low same. absurd (omega (arith, low, same));
  receipts-pools = λ same. absurd (omega (arith, same));
  receipts-exceptions = λ same. absurd (omega (arith, same));
  pools-exceptions = λ same. absurd (omega (arith, same));
}
apart Gapped = record {
  receipts = λ tree low same. absurd (omega (arith, low, same));
  pools = λ tree low same. absurd (omega (arith, low, same));
  exceptions = λ tree low same. absurd (omega (arith, low, same));
  receipts-pools = λ same. absurd (omega (arith, same));
  receipts-exceptions = λ same. absurd (omega (arith, same));
  pools-exceptions = λ same. absurd (omega (arith, same));
}

-- a query reads the trees as they are
pub record Read (layout : Layout) (db : Trees) : Type 0 where
  pub receipts : overlay db [] (receipts_tree layout) ≡ db (receipts_tree layout)
  pub pools : overlay db [] (pools_tree layout) ≡ db (pools_tree layout)
  pub exceptions : overlay db [] (exceptions_tree layout) ≡ db (exceptions_tree layout)

pub read : (layout : Layout) (db : Trees) → Read layout db
read Compact db = record { receipts = refl; pools = refl; exceptions = refl }
read Gapped db = record { receipts = refl; pools = refl; exceptions = refl }
