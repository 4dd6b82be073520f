-- Which rows of the tables stand for which state of a tenant.
use Rattle.std.specs.Prelude.{ℕ, ℤ, pos, ◌≡◌, ◌⊎◌, ◌+◌, List, [], ◌∷◌, ◌++◌, map, length, Bool, Option, Some, None, if◌then◌else◌, IsPermutation}
use Rattle.std.specs.List.{AllByRecursion}
use Rattle.table_schema.specs.sqlite_value.specs.declared.value.Value.TheVariants.{Int, Text as Words}
use Rattle.table_schema.specs.sqlite_value.specs.Order.{Row}
use Rattle.sqlite_trees.specs.Tree.{Trees}
use Rattle.sqlite.specs.Effect.{Database}
use Rattle.crush_map.specs.Map.{Map}
use Rattle.crush_pool.specs.declared.exceptions.Pair.{Pair}
use Rattle.crush_pool.specs.declared.pool.PoolParts.{PoolParts}
use Rattle.crush_pool.specs.declared.states.DeviceState.{DeviceState}
use Rattle.crush_text.specs.crush_writing.specs.Canonical.{canonical}
use Rattle.tenant_messages.specs.Reply.{success_status}
use Rattle.tenant_state.specs.State.{TenantPool, TenantState, epoch}
use Rattle.tenant_state.specs.Valid.{IsState}
use Rattle.tenant_state.specs.declared.receipts.Receipt.{Receipt}
use Rattle.table_schema.specs.Holds.{TenantRows, Holds, IsAbsent, IsTenant, of_tenant}
use Rattle.table_schema.specs.Layout.{no_schema, first_schema, IsStoreSchema, maps_table, devices_table, first_pools_table, receipts_table}
use Rattle.table_schema.specs.Values.{version_row}

-- ---- the rows of each part, as values behind the tenant's number

-- a flag is 0 or 1
abbrev pub flag : Bool → ℤ
flag b = if b then pos 1 else pos 0

-- a version is its number and the canonical text of its map
abbrev pub row_of_version : ℕ → Map → Row
row_of_version number m = version_row (pos number) (canonical m)

-- versions have the numbers that follow one another
abbrev pub rows_of_versions : ℕ → List Map → List Row
rows_of_versions number [] = []
rows_of_versions number (m ∷ maps) = row_of_version number m ∷ rows_of_versions (number + 1) maps

abbrev pub row_of_state : DeviceState → Row
row_of_state s = Int (pos s.device) ∷ Int (pos s.reweight) ∷ Int (flag s.up) ∷ []

-- the settings of a pool, and a number of pairs
abbrev pub row_with_count : PoolParts → ℤ → Row
row_with_count p count =
    Int (pos p.id)
    ∷ Words p.name
    ∷ Int (flag p.erasure)
    ∷ Int (pos p.size)
    ∷ Int (pos p.rule)
    ∷ Int (pos p.pg_num)
    ∷ Int (pos p.pgp_num)
    ∷ Int (flag p.hashpspool)
    ∷ Int count
    ∷ []

-- a pool has the number of its pairs
abbrev pub row_of_pool : TenantPool → Row
row_of_pool p = row_with_count p.parts (pos (length p.pairs))

-- a pair has the id of its pool, and its place in the list
abbrev pub row_of_pair : ℕ → ℕ → Pair → Row
row_of_pair pool place p = Int (pos pool) ∷ Int (pos place) ∷ Int (pos p.group) ∷ Int (pos p.from) ∷ Int (pos p.to) ∷ []

-- pairs have the places that follow one another
abbrev pub rows_of_pairs : ℕ → ℕ → List Pair → List Row
rows_of_pairs pool place [] = []
rows_of_pairs pool place (p ∷ pairs) = row_of_pair pool place p ∷ rows_of_pairs pool (place + 1) pairs

-- the pairs of each pool have the places 0, 1, ..
abbrev pub rows_of_exceptions : List TenantPool → List Row
rows_of_exceptions [] = []
rows_of_exceptions (p ∷ pools) = rows_of_pairs p.parts.id 0 p.pairs ++ rows_of_exceptions pools

-- a receipt has the number of its status
abbrev pub row_of_receipt : List ℕ × Receipt → Row
row_of_receipt r =
    Words r.0 ∷ Words r.1.path ∷ Words r.1.body ∷ Int (pos (success_status r.1.status)) ∷ Words r.1.reply ∷ []

-- ---- states

-- the rows of a state; the versions are 1, 2, ..
abbrev pub rows_of : TenantState → TenantRows
rows_of s = record {
  epoch = epoch s;
  maps = rows_of_versions 1 s.versions;
  devices = map row_of_state s.devices;
  pools = map row_of_pool s.pools;
  receipts = map row_of_receipt s.receipts;
  exceptions = rows_of_exceptions s.pools;
}

-- The rows of a name stand for no tenant where there is no row of tenants with the name, and else
-- for the state whose rows they are, in any order. The tenant's number is no part of the state.
-- Where they are the rows of no state, they stand for nothing.
abbrev pub StandsFor : Trees → List ℕ → Option TenantState → Type 0
StandsFor db name None = IsAbsent db name
StandsFor db name (Some s) = IsState s × Holds db name (rows_of s)

-- ---- schema 1

-- the row of a pool of schema 1, which has no pairs
abbrev pub first_row_of_pool : PoolParts → Row
first_row_of_pool p =
    Int (pos p.id)
    ∷ Words p.name
    ∷ Int (flag p.erasure)
    ∷ Int (pos p.size)
    ∷ Int (pos p.rule)
    ∷ Int (pos p.pg_num)
    ∷ Int (pos p.pgp_num)
    ∷ Int (flag p.hashpspool)
    ∷ []

-- In tables of schema 1 the name is that of a tenant with the rows of the state, in any order. No
-- pool of the state has pairs.
pub record HoldsFirst (db : Trees) (name : List ℕ) (s : TenantState) : Type 0 where
  pub id : ℤ
  pub tenant : IsTenant db name id (epoch s)
  pub maps : IsPermutation (of_tenant maps_table id db) (rows_of_versions 1 s.versions)
  pub devices : IsPermutation (of_tenant devices_table id db) (map row_of_state s.devices)
  pub pools : IsPermutation (of_tenant first_pools_table id db) (map (λ (p : TenantPool). first_row_of_pool p.parts) s.pools)
  pub receipts : IsPermutation (of_tenant receipts_table id db) (map row_of_receipt s.receipts)
  pub no_pairs : AllByRecursion (λ (p : TenantPool). p.pairs ≡ []) s.pools

-- the same as `StandsFor`, of rows of schema 1
abbrev pub FirstStandsFor : Trees → List ℕ → Option TenantState → Type 0
FirstStandsFor db name None = IsAbsent db name
FirstStandsFor db name (Some s) = IsState s × HoldsFirst db name s

-- What the tables of a database say of tenants: each is absent where there are no tables yet; else
-- it has the state that its rows stand for, be they of schema 1 or of schema 2.
abbrev pub StatesIn : Database → List ℕ → Option TenantState → Type 0
StatesIn db t s =
    ((db.schema ≡ no_schema) × (s ≡ None))
    ⊎ (((db.schema ≡ first_schema) × FirstStandsFor db.trees t s) ⊎ (IsStoreSchema db.schema × StandsFor db.trees t s))
