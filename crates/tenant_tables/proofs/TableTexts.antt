-- The texts that make the tables, and what they make.
use Rattle.std.proofs.Common.{◌≡◌, ℕ, pos, List, [], ◌∷◌, codes, Ok, refl}
use Rattle.sqlite.specs.declared.types.Value.TheVariants.{Null, Int}
use Rattle.sqlite.specs.Term.{lit, col}
use Rattle.sqlite.specs.Query.{Query}
use Rattle.sqlite.specs.Collation.TheVariants.{Binary}
use Rattle.sqlite.specs.Source.TheVariants as source
use Rattle.table_schema.specs.sqlite_catalog.specs.Change.{created, without_table}
use Rattle.table_schema.proofs.Queries.{plain_query}
use Rattle.table_schema.specs.declared.schema.Layout.TheVariants.{Compact, Gapped}
use Rattle.tenant_tables.proofs.WriteTexts.{InsertsOne}
use Rattle.table_schema.specs.sqlite_tied.specs.Compute.{everything}
use Rattle.sqlite.specs.Table.{Table}
use Rattle.sqlite.specs.Schema.{Schema}
use Rattle.sqlite.specs.Command.TheVariants.{CreateTable, DropTable, Insert, Update}
use Rattle.sqlite.specs.Compile.{table_defined_by}
use Rattle.sqlite.specs.Does.{sequence_text}
use Rattle.sqlite.specs.Listing.{understood}
use Rattle.sqlite.proofs.Callers.{IsPlain, command_of, statement_of}
use Rattle.table_schema.specs.Layout.{no_schema, schema_with_devices, first_schema, store_schema, info_table, tenants_table, sequence_table, maps_table, devices_table, receipts_table, pools_table, exceptions_table}

abbrev pub info_text : List ℕ
info_text = codes "CREATE TABLE schema_info (one INTEGER NOT NULL PRIMARY KEY CHECK (one = 1), version INTEGER NOT NULL) STRICT"

abbrev pub tenants_text : List ℕ
tenants_text = codes "CREATE TABLE tenants (id INTEGER NOT NULL PRIMARY KEY AUTOINCREMENT, name TEXT NOT NULL UNIQUE, epoch INTEGER NOT NULL) STRICT"

abbrev pub maps_text : List ℕ
maps_text = codes "CREATE TABLE maps (tenant INTEGER NOT NULL REFERENCES tenants(id) ON DELETE CASCADE, version INTEGER NOT NULL, text TEXT NOT NULL, PRIMARY KEY(tenant, version)) STRICT"

abbrev pub devices_text : List ℕ
devices_text = codes "CREATE TABLE devices (tenant INTEGER NOT NULL REFERENCES tenants(id) ON DELETE CASCADE, device INTEGER NOT NULL, reweight INTEGER NOT NULL, up INTEGER NOT NULL, PRIMARY KEY(tenant, device)) STRICT"

abbrev pub pools_text : List ℕ
pools_text = codes "CREATE TABLE pools_2 (tenant INTEGER NOT NULL REFERENCES tenants(id) ON DELETE CASCADE, id INTEGER NOT NULL, name TEXT NOT NULL, erasure INTEGER NOT NULL, size INTEGER NOT NULL, rule INTEGER NOT NULL, pg_num INTEGER NOT NULL, pgp_num INTEGER NOT NULL, hashpspool INTEGER NOT NULL, pairs INTEGER NOT NULL, PRIMARY KEY(tenant, id), UNIQUE(tenant, name)) STRICT"

abbrev pub exceptions_text : List ℕ
exceptions_text = codes "CREATE TABLE exceptions (tenant INTEGER NOT NULL REFERENCES tenants(id) ON DELETE CASCADE, pool INTEGER NOT NULL, place INTEGER NOT NULL, grp INTEGER NOT NULL, src INTEGER NOT NULL, dst INTEGER NOT NULL, PRIMARY KEY(tenant, pool, place)) STRICT"

abbrev pub receipts_text : List ℕ
receipts_text = codes "CREATE TABLE receipts (tenant INTEGER NOT NULL REFERENCES tenants(id) ON DELETE CASCADE, request TEXT NOT NULL, path TEXT NOT NULL, body TEXT NOT NULL, status INTEGER NOT NULL, reply TEXT NOT NULL, PRIMARY KEY(tenant, request)) STRICT"

-- the text makes the table
pub record Makes (schema : Schema) (text : List ℕ) (table : Table) : Type 0 where
  pub command : command_of (understood schema text) ≡ CreateTable
  pub statement : statement_of text (understood schema text) ≡ text
  pub defined : table_defined_by text ≡ Ok table
  pub plain : IsPlain (understood schema text)

-- the schemas on the way to a new one
abbrev pub schema_with_info : Schema
schema_with_info = created no_schema info_table

abbrev pub schema_with_tenants : Schema
schema_with_tenants = created (created schema_with_info tenants_table) sequence_table

abbrev pub schema_with_maps : Schema
schema_with_maps = created schema_with_tenants maps_table

abbrev pub schema_with_receipts : Schema
schema_with_receipts = created schema_with_devices receipts_table

abbrev pub schema_with_pools : Schema
schema_with_pools = created schema_with_receipts pools_table

-- and from the first
abbrev pub first_with_pools : Schema
first_with_pools = created first_schema pools_table

abbrev pub first_with_exceptions : Schema
first_with_exceptions = created first_with_pools exceptions_table

pub new_is : created schema_with_pools exceptions_table ≡ store_schema Compact
new_is = refl

pub migrated_is : without_table first_with_exceptions 8 ≡ store_schema Gapped
migrated_is = refl

pub info_is : Makes no_schema info_text info_table
unfolding understood everything
info_is = record { command = refl; statement = refl; defined = refl; plain = (refl, refl) }

pub tenants_are : Makes schema_with_info tenants_text tenants_table
unfolding understood everything
tenants_are = record { command = refl; statement = refl; defined = refl; plain = (refl, refl) }

pub maps_are : Makes schema_with_tenants maps_text maps_table
unfolding understood everything
maps_are = record { command = refl; statement = refl; defined = refl; plain = (refl, refl) }

pub devices_are : Makes schema_with_maps devices_text devices_table
unfolding understood everything
devices_are = record { command = refl; statement = refl; defined = refl; plain = (refl, refl) }

pub receipts_are : Makes schema_with_devices receipts_text receipts_table
unfolding understood everything
receipts_are = record { command = refl; statement = refl; defined = refl; plain = (refl, refl) }

pub pools_are : Makes schema_with_receipts pools_text pools_table
unfolding understood everything
pools_are = record { command = refl; statement = refl; defined = refl; plain = (refl, refl) }

pub exceptions_are : Makes schema_with_pools exceptions_text exceptions_table
unfolding understood everything
exceptions_are = record { command = refl; statement = refl; defined = refl; plain = (refl, refl) }

pub first_pools_are : Makes first_schema pools_text pools_table
unfolding understood everything
first_pools_are = record { command = refl; statement = refl; defined = refl; plain = (refl, refl) }

pub first_exceptions_are : Makes first_with_pools exceptions_text exceptions_table
unfolding understood everything
first_exceptions_are = record { command = refl; statement = refl; defined = refl; plain = (refl, refl) }

pub sequence_is : table_defined_by sequence_text ≡ Ok sequence_table
unfolding understood everything
sequence_is = refl

-- ---- the version

abbrev pub version_text : List ℕ
version_text = codes "INSERT INTO schema_info VALUES (1, 2)"

pub version_is : InsertsOne Compact version_text 0 (lit (Int (pos 1)) ∷ lit Null ∷ lit (Int (pos 2)) ∷ [])
unfolding understood everything
version_is = record { command = refl; plain = (refl, refl) }

-- ---- from schema 1

abbrev pub copy_text : List ℕ
copy_text = codes "INSERT INTO pools_2 SELECT tenant, id, name, erasure, size, rule, pg_num, pgp_num, hashpspool, 0 FROM pools"

abbrev pub copy_query : Query
copy_query = record (plain_query 8 [] (lit Null ∷ col 1 1 ∷ col 1 2 ∷ col 1 3 ∷ col 1 4 ∷ col 1 5 ∷ col 1 6 ∷ col 1 7 ∷ col 1 8 ∷ col 1 9 ∷ lit (Int (pos 0)) ∷ [])) {
  collations = Binary ∷ Binary ∷ Binary ∷ Binary ∷ Binary ∷ Binary ∷ Binary ∷ Binary ∷ Binary ∷ Binary ∷ Binary ∷ [];
}

pub copy_is : (command_of (understood first_with_exceptions copy_text) ≡ Insert 7 (source.Query (record { lets = []; body = copy_query }))) × IsPlain (understood first_with_exceptions copy_text)
unfolding understood everything
copy_is = (refl, (refl, refl))

abbrev pub drop_text : List ℕ
drop_text = codes "DROP TABLE pools"

pub drop_is : (command_of (understood first_with_exceptions drop_text) ≡ DropTable 5) × IsPlain (understood first_with_exceptions drop_text)
unfolding understood everything
drop_is = (refl, (refl, refl))

abbrev pub second_text : List ℕ
second_text = codes "UPDATE schema_info SET version = 2"

abbrev pub second_query : Query
second_query = plain_query 0 [] (col 1 0 ∷ col 1 0 ∷ lit Null ∷ lit (Int (pos 2)) ∷ [])

pub second_is : (command_of (understood (store_schema Gapped) second_text) ≡ Update 0 (record { lets = []; body = second_query })) × IsPlain (understood (store_schema Gapped) second_text)
unfolding understood everything
second_is = (refl, (refl, refl))
