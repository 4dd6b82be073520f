-- What several writes in one transaction make of a database.
use Rattle.std.specs.Prelude.{◌≡◌, ℕ, ℤ, List, [], ◌∷◌, ◌++◌, codes, Ok, IsTrue, true}
use Rattle.table_schema.specs.sqlite_value.specs.declared.value.Value.TheVariants.{Int, Text as Words}
use Rattle.table_schema.specs.sqlite_value.specs.Order.{Row}
use Rattle.sqlite.specs.Store.{Ghosts}
use Rattle.sqlite.specs.Effect.{Database, IsDatabase}
use Rattle.sqlite.specs.State.{Executes}
use Rattle.sqlite.specs.Held.{Held, state}
use Rattle.table_schema.specs.Layout.{IsStoreSchema}
use Rattle.table_schema.specs.Holds.{AreTables}
use Rattle.table_schema.specs.declared.values.ExceptionRow.{ExceptionRow}
use Rattle.table_schema.specs.declared.values.PoolValues.{PoolValues}
use Rattle.table_schema.specs.declared.values.StateRow.{StateRow}
use Rattle.tenant_tables.specs.declared.commit.CommitHead.{CommitHead}
use Rattle.tenant_tables.specs.declared.write.Write.{Write}
use Rattle.tenant_tables.specs.declared.write.Write.TheVariants.{Plain, Create, Remove, Raise, AddVersion, ClearState, AddState, AddPool, RemovePool, AddException, ClearExceptions, AddReceipt}

-- the text of the statement
abbrev pub text_of : Write → List ℕ
text_of (Plain sql) = sql.now
text_of (Create name) = codes "INSERT INTO tenants (name, epoch) VALUES (?1, 0)"
text_of (Remove id) = codes "DELETE FROM tenants WHERE id = ?1"
text_of (Raise id epoch) = codes "UPDATE tenants SET epoch = ?2 WHERE id = ?1"
text_of (AddVersion id version text) = codes "INSERT INTO maps (tenant, version, text) VALUES (?1, ?2, ?3)"
text_of (ClearState id device) = codes "DELETE FROM devices WHERE tenant = ?1 AND device = ?2"
text_of (AddState id state) = codes "INSERT INTO devices (tenant, device, reweight, up) VALUES (?1, ?2, ?3, ?4)"
text_of (AddPool id pool) = codes "INSERT INTO pools_2 VALUES (?1, ?2, ?3, ?4, ?5, ?6, ?7, ?8, ?9, ?10)"
text_of (RemovePool id pool) = codes "DELETE FROM pools_2 WHERE tenant = ?1 AND id = ?2"
text_of (AddException id exception) = codes "INSERT INTO exceptions VALUES (?1, ?2, ?3, ?4, ?5, ?6)"
text_of (ClearExceptions id pool) = codes "DELETE FROM exceptions WHERE tenant = ?1 AND pool = ?2"
text_of (AddReceipt id receipt) = codes "INSERT INTO receipts (tenant, request, path, body, status, reply) VALUES (?1, ?2, ?3, ?4, ?5, ?6)"

-- the values of the statement's parameters
abbrev pub params_of : Write → Row
params_of (Plain sql) = []
params_of (Create name) = Words name.now ∷ []
params_of (Remove id) = Int id ∷ []
params_of (Raise id epoch) = Int id ∷ Int epoch ∷ []
params_of (AddVersion id version text) = Int id ∷ Int version ∷ Words text.now ∷ []
params_of (ClearState id device) = Int id ∷ Int device ∷ []
params_of (AddState id state) = Int id ∷ Int state.device ∷ Int state.reweight ∷ Int state.up ∷ []
params_of (AddPool id pool) =
    Int id
    ∷ Int pool.id
    ∷ Words pool.name.now
    ∷ Int pool.erasure
    ∷ Int pool.size
    ∷ Int pool.rule
    ∷ Int pool.pg_num
    ∷ Int pool.pgp_num
    ∷ Int pool.hashpspool
    ∷ Int pool.pairs
    ∷ []
params_of (RemovePool id pool) = Int id ∷ Int pool ∷ []
params_of (AddException id e) = Int id ∷ Int e.pool ∷ Int e.place ∷ Int e.group ∷ Int e.from ∷ Int e.to ∷ []
params_of (ClearExceptions id pool) = Int id ∷ Int pool ∷ []
params_of (AddReceipt id receipt) =
    Int id ∷ Words receipt.request.now ∷ Words receipt.path.now ∷ Words receipt.body.now ∷ Int receipt.status ∷ Words receipt.reply.now ∷ []

-- the writes that set the states of devices
abbrev pub state_writes : ℤ → List StateRow → List Write
state_writes id [] = []
state_writes id (state ∷ states) = ClearState id state.device ∷ AddState id state ∷ state_writes id states

-- the writes that set a pool's row, and remove its exceptions
abbrev pub pool_writes : ℤ → PoolValues → List Write
pool_writes id pool = ClearExceptions id pool.id ∷ RemovePool id pool.id ∷ AddPool id pool ∷ []

-- the writes that add exceptions
abbrev pub exception_writes : ℤ → List ExceptionRow → List Write
exception_writes id [] = []
exception_writes id (exception ∷ exceptions) = AddException id exception ∷ exception_writes id exceptions

-- the writes of an accepted change, between that of the epoch and that of the receipt
abbrev pub writes_with : CommitHead → List Write → List Write
writes_with a writes = Raise a.id a.epoch ∷ writes ++ AddReceipt a.id a.receipt ∷ []

module _ {S : Type 0} (g : Ghosts S) where
  -- each write runs once, in turn
  abbrev pub Ran : List Write → Held S → Held S → Type 0
  Ran [] old new = new ≡ old
  Ran (w ∷ writes) old new =
      (next : Held S) × (count : ℕ) × IsTrue (state g old).is_open × Executes (text_of w) (params_of w) (state g old) (state g next) (Ok count) × Ran writes next new

  -- the connection in a transaction that has written nothing
  abbrev pub begun : Held S → Held S
  begun old = record old { in_transaction = true }

  -- the database that the writes make of the one that the connection shows
  abbrev pub Makes : List Write → Held S → Database → Type 0
  Makes writes old db = (last : Held S) × Ran writes (begun old) last × (db ≡ (state g last).now)

-- Inside the transaction `writes` have run so far, and nothing is committed.
pub record Inside {S : Type 0} (g : Ghosts S) (writes : List Write) (old now : Held S) : Type 0 where
  pub ran : Ran g writes (begun g old) now
  pub mode : IsTrue now.in_transaction
  pub was_open : IsTrue (state g now).is_open → IsTrue (state g old).is_open
  pub committed : (state g now).committed ≡ (state g old).committed

-- this service's tables, as each change leaves them
pub record AreSound (db : Database) : Type 0 where
  pub schema : IsStoreSchema db.schema
  pub tables : AreTables db.trees
  pub sound : IsDatabase db
