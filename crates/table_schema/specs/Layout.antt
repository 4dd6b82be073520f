-- The tables of the service: those of schema 2, and those of schema 1, which an opening replaces.
use Rattle.std.specs.Prelude.{◌≡◌, ◌+◌, true, false, [], ◌∷◌, Some, None, codes, List, ℕ, pos}
use Rattle.sqlite.specs.Collation.TheVariants.{Binary}
use Rattle.sqlite.specs.declared.types.Value.TheVariants.{Null, Int}
use Rattle.sqlite.specs.Table.{Table}
use Rattle.sqlite.specs.Schema.{Schema}
use Rattle.sqlite.specs.Kind.{Kind}
use Rattle.sqlite.specs.Kind.TheVariants.{Integer, Text, Any}
use Rattle.sqlite_schema.specs.declared.schema.Column.{Column}
use Rattle.sqlite_schema.specs.declared.schema.Index.{Index}
use Rattle.sqlite_schema.specs.declared.schema.Action.TheVariants.{NoAction, Cascade}
use Rattle.sqlite_schema.specs.declared.schema.Reference.{Reference}
use Rattle.sqlite_schema.specs.declared.schema.Stamps.{Stamps}
use Rattle.sqlite_value.specs.declared.keys.Order.{Order}
use Rattle.sqlite_sql.specs.Term.{lit, col, op2}
use Rattle.sqlite_sql.specs.declared.ops.BinaryOp.TheVariants.{Compare}
use Rattle.sqlite_sql.specs.declared.ops.CompareOp.TheVariants.{Eq}
use Rattle.sqlite_value.specs.Keys.{plain}
use Rattle.sqlite_catalog.specs.Listing.{automatic}
use Rattle.sqlite_catalog.specs.Change.{created}
use Rattle.table_schema.specs.declared.schema.Layout.{Layout}
use Rattle.table_schema.specs.declared.schema.Layout.TheVariants.{Compact, Gapped}

-- the schema of a database without tables
abbrev pub no_schema : Schema
no_schema = record { tables = []; indexes = []; views = [] }

-- a column of a STRICT table that is NOT NULL
abbrev pub needed : List ℕ → Kind → Column
needed name kind = record {
  name = name;
  kind = kind;
  is_strict = true;
  not_null = true;
  default = Null;
  collation = Binary;
}

-- a column without a type
abbrev pub loose : List ℕ → Column
loose name = record {
  name = name;
  kind = Any;
  is_strict = false;
  not_null = false;
  default = Null;
  collation = Binary;
}

-- no default reads the time
abbrev pub no_stamps : Stamps
no_stamps = record { places = []; terms = []; formats = [] }

-- the number of the version of the schema, in one row
abbrev pub info_table : Table
info_table = record {
  name = codes "schema_info";
  tree = 0;
  columns = needed (codes "one") Integer ∷ needed (codes "version") Integer ∷ [];
  key = Some 0;
  primary = 0 ∷ [];
  uniques = [];
  orders = [];
  checks = op2 (Compare Eq Binary) (col 1 0) (lit (Int (pos 1))) ∷ [];
  references = [];
  computed = [];
  stamps = record { places = []; terms = []; formats = [] };
  is_counted = false;
}

-- each tenant with its number, which no later tenant has again, and its epoch
abbrev pub tenants_table : Table
tenants_table = record {
  name = codes "tenants";
  tree = 0;
  columns = needed (codes "id") Integer ∷ needed (codes "name") Text ∷ needed (codes "epoch") Integer ∷ [];
  key = Some 0;
  primary = 0 ∷ [];
  uniques = (2 ∷ []) ∷ [];
  orders = plain ∷ [];
  checks = [];
  references = [];
  computed = [];
  stamps = record { places = []; terms = []; formats = [] };
  is_counted = true;
}

-- SQLite's own table of the counts for AUTOINCREMENT
abbrev pub sequence_table : Table
sequence_table = record {
  name = codes "sqlite_sequence";
  tree = 0;
  columns = loose (codes "name") ∷ loose (codes "seq") ∷ [];
  key = None;
  primary = [];
  uniques = [];
  orders = [];
  checks = [];
  references = [];
  computed = [];
  stamps = record { places = []; terms = []; formats = [] };
  is_counted = false;
}

-- the rows of a tenant are deleted with it
abbrev pub to_tenant : Reference
to_tenant = record {
  columns = 1 ∷ [];
  parent = codes "tenants";
  parent_columns = codes "id" ∷ [];
  on_delete = Cascade;
  on_update = NoAction;
  is_deferred = false;
}

-- a table of tenants' rows
abbrev pub child : List ℕ → ℕ → List Column → List ℕ → List (List ℕ) → List Order → Table
child name tree columns primary uniques orders = record {
  name = name;
  tree = tree;
  columns = columns;
  key = None;
  primary = primary;
  uniques = uniques;
  orders = orders;
  checks = [];
  references = to_tenant ∷ [];
  computed = [];
  stamps = no_stamps;
  is_counted = false;
}

-- the versions of maps, each with its canonical text
abbrev pub maps_table : Table
maps_table = record {
  name = codes "maps";
  tree = 0;
  columns = needed (codes "tenant") Integer ∷ needed (codes "version") Integer ∷ needed (codes "text") Text ∷ [];
  key = None;
  primary = 1 ∷ 2 ∷ [];
  uniques = (1 ∷ 2 ∷ []) ∷ [];
  orders = plain ∷ [];
  checks = [];
  references = to_tenant ∷ [];
  computed = [];
  stamps = record { places = []; terms = []; formats = [] };
  is_counted = false;
}

-- the states of devices that have one
abbrev pub devices_table : Table
devices_table = record {
  name = codes "devices";
  tree = 0;
  columns = needed (codes "tenant") Integer
      ∷ needed (codes "device") Integer
      ∷ needed (codes "reweight") Integer
      ∷ needed (codes "up") Integer
      ∷ [];
  key = None;
  primary = 1 ∷ 2 ∷ [];
  uniques = (1 ∷ 2 ∷ []) ∷ [];
  orders = plain ∷ [];
  checks = [];
  references = to_tenant ∷ [];
  computed = [];
  stamps = record { places = []; terms = []; formats = [] };
  is_counted = false;
}

-- the pools of schema 1; no two of a tenant have one name
abbrev pub first_pools_table : Table
first_pools_table = record {
  name = codes "pools";
  tree = 0;
  columns = needed (codes "tenant") Integer
      ∷ needed (codes "id") Integer
      ∷ needed (codes "name") Text
      ∷ needed (codes "erasure") Integer
      ∷ needed (codes "size") Integer
      ∷ needed (codes "rule") Integer
      ∷ needed (codes "pg_num") Integer
      ∷ needed (codes "pgp_num") Integer
      ∷ needed (codes "hashpspool") Integer
      ∷ [];
  key = None;
  primary = 1 ∷ 2 ∷ [];
  uniques = (1 ∷ 2 ∷ []) ∷ (1 ∷ 3 ∷ []) ∷ [];
  orders = plain ∷ plain ∷ [];
  checks = [];
  references = to_tenant ∷ [];
  computed = [];
  stamps = record { places = []; terms = []; formats = [] };
  is_counted = false;
}

-- the pools, each with the number of its exceptions
abbrev pub pools_table : Table
pools_table = record {
  name = codes "pools_2";
  tree = 0;
  columns = needed (codes "tenant") Integer
      ∷ needed (codes "id") Integer
      ∷ needed (codes "name") Text
      ∷ needed (codes "erasure") Integer
      ∷ needed (codes "size") Integer
      ∷ needed (codes "rule") Integer
      ∷ needed (codes "pg_num") Integer
      ∷ needed (codes "pgp_num") Integer
      ∷ needed (codes "hashpspool") Integer
      ∷ needed (codes "pairs") Integer
      ∷ [];
  key = None;
  primary = 1 ∷ 2 ∷ [];
  uniques = (1 ∷ 2 ∷ []) ∷ (1 ∷ 3 ∷ []) ∷ [];
  orders = plain ∷ plain ∷ [];
  checks = [];
  references = to_tenant ∷ [];
  computed = [];
  stamps = record { places = []; terms = []; formats = [] };
  is_counted = false;
}

-- the exceptions of pools, in lists: in the group a device takes the place of another
abbrev pub exceptions_table : Table
exceptions_table = record {
  name = codes "exceptions";
  tree = 0;
  columns = needed (codes "tenant") Integer
      ∷ needed (codes "pool") Integer
      ∷ needed (codes "place") Integer
      ∷ needed (codes "grp") Integer
      ∷ needed (codes "src") Integer
      ∷ needed (codes "dst") Integer
      ∷ [];
  key = None;
  primary = 1 ∷ 2 ∷ 3 ∷ [];
  uniques = (1 ∷ 2 ∷ 3 ∷ []) ∷ [];
  orders = plain ∷ [];
  checks = [];
  references = to_tenant ∷ [];
  computed = [];
  stamps = record { places = []; terms = []; formats = [] };
  is_counted = false;
}

-- the receipts of accepted changes
abbrev pub receipts_table : Table
receipts_table = record {
  name = codes "receipts";
  tree = 0;
  columns = needed (codes "tenant") Integer
      ∷ needed (codes "request") Text
      ∷ needed (codes "path") Text
      ∷ needed (codes "body") Text
      ∷ needed (codes "status") Integer
      ∷ needed (codes "reply") Text
      ∷ [];
  key = None;
  primary = 1 ∷ 2 ∷ [];
  uniques = (1 ∷ 2 ∷ []) ∷ [];
  orders = plain ∷ [];
  checks = [];
  references = to_tenant ∷ [];
  computed = [];
  stamps = record { places = []; terms = []; formats = [] };
  is_counted = false;
}

-- the table in the tree `tree`
abbrev pub placed : ℕ → Table → Table
placed tree table = record table { tree = tree }

-- ---- schema 2

-- Trees are numbered as the rows of sqlite_schema. In a file that had schema 1 those after devices
-- have numbers that are greater by 3, since its table of pools and the two indexes of that table
-- were dropped, until VACUUM writes the file anew.
abbrev pub receipts_tree : Layout → ℕ
receipts_tree Compact = 8
receipts_tree Gapped = 11

abbrev pub pools_tree : Layout → ℕ
pools_tree Compact = 10
pools_tree Gapped = 13

abbrev pub exceptions_tree : Layout → ℕ
exceptions_tree Compact = 13
exceptions_tree Gapped = 16

-- the index that SQLite makes for a key of the table, in the tree that is `behind` trees after it
abbrev pub index : Table → ℕ → List ℕ → ℕ → Index
index table at key behind = automatic table at key (table.tree + behind)

abbrev pub store_schema : Layout → Schema
store_schema layout = record {
  tables = info_table
      ∷ placed 1 tenants_table
      ∷ placed 3 sequence_table
      ∷ placed 4 maps_table
      ∷ placed 6 devices_table
      ∷ placed (receipts_tree layout) receipts_table
      ∷ placed (pools_tree layout) pools_table
      ∷ placed (exceptions_tree layout) exceptions_table
      ∷ [];
  indexes = index (placed 1 tenants_table) 0 (2 ∷ []) 1
      ∷ index (placed 4 maps_table) 0 (1 ∷ 2 ∷ []) 1
      ∷ index (placed 6 devices_table) 0 (1 ∷ 2 ∷ []) 1
      ∷ index (placed (receipts_tree layout) receipts_table) 0 (1 ∷ 2 ∷ []) 1
      ∷ index (placed (pools_tree layout) pools_table) 0 (1 ∷ 2 ∷ []) 1
      ∷ index (placed (pools_tree layout) pools_table) 1 (1 ∷ 3 ∷ []) 2
      ∷ index (placed (exceptions_tree layout) exceptions_table) 0 (1 ∷ 2 ∷ 3 ∷ []) 1
      ∷ [];
  views = [];
}

-- the schema is this service's
abbrev pub IsStoreSchema : Schema → Type 0
IsStoreSchema schema = (layout : Layout) × (schema ≡ store_schema layout)

-- the tables whose rows belong to a tenant, by the number in their first column
abbrev pub tables_of_tenants : List Table
tables_of_tenants = maps_table ∷ devices_table ∷ pools_table ∷ receipts_table ∷ exceptions_table ∷ []

-- ---- schema 1

-- the schema after its first five tables were made, in their order
abbrev pub schema_with_devices : Schema
schema_with_devices = created (created (created (created (created no_schema info_table) tenants_table) sequence_table) maps_table) devices_table

abbrev pub first_schema : Schema
first_schema = created (created schema_with_devices first_pools_table) receipts_table
