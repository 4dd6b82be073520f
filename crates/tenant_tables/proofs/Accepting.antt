-- What the commits make of the rows of a tenant.
use Rattle.std.proofs.Common.{◌≡◌, ℕ, ℤ, pos, List, [], ◌∷◌, map, filter, fold, Bool, false, not, Ok, refl, sym, ap, subst, ◌∙◌}
use Rattle.std.specs.List.{AllByRecursion}
use Rattle.std.specs.List.Sorted.{IsPermutation}
use Rattle.table_schema.specs.sqlite_value.specs.declared.value.Value.TheVariants.{Null, Int, Text as Words}
use Rattle.table_schema.specs.sqlite_value.specs.declared.keys.Collation.TheVariants.{Binary}
use Rattle.table_schema.specs.sqlite_value.specs.Order.{Row, column}
use Rattle.sqlite_trees.specs.Tree.{Trees}
use Rattle.sqlite_trees.proofs.ListLemmas.{all_of, IsPermutation-filter, filter-map}
use Rattle.table_schema.specs.sqlite_schema.specs.declared.schema.Table.{Table}
use Rattle.table_schema.specs.sqlite_schema.specs.Rules.{equal}
use Rattle.sqlite.specs.Effect.{Database}
use Rattle.sqlite.specs.Store.{Ghosts}
use Rattle.sqlite.specs.Held.{Held, state}
use Rattle.sqlite.specs.State.{State, Executes}
use Rattle.tenant_tables.specs.declared.write.Write.TheVariants.{Plain, Create, Remove, Raise, AddVersion, ClearState, AddState, AddPool, RemovePool, AddException, ClearExceptions, AddReceipt}
use Rattle.tenant_tables.specs.declared.write.Write.{Write}
use Rattle.table_schema.specs.declared.schema.Layout.{Layout}
use Rattle.table_schema.specs.Layout.{store_schema, tenants_table, maps_table, devices_table, pools_table, receipts_table, exceptions_table, tables_of_tenants}
use Rattle.table_schema.specs.Holds.{rows_in, rows_with, values_of, of_tenant, IsTenant, TenantRows, Holds, Turns}
use Rattle.tenant_tables.specs.Run.{AreSound, text_of, params_of, Ran, Makes, begun}
use Rattle.table_schema.specs.Ready.{IsReady}
use Rattle.table_schema.specs.Values.{version_row, state_row, pool_row, exception_row}
use Rattle.tenant_tables.specs.Change.{without_key, with_receipt}
use Rattle.tenant_tables.proofs.Inserting.{adds_version, adds_state, adds_pool, adds_exception, adds_receipt}
use Rattle.tenant_tables.proofs.Raising.{raises}
use Rattle.tenant_tables.proofs.Deleting.{is_keyed, clears_state, removes_pool, clears_exceptions}
use Rattle.tenant_tables.proofs.Turning.{Touches, touches_then, touched, named, alone, added_touches, added_own, taken_touches, filter_within, raised_touches, raised_row_is}

-- what a write makes of the rows of its tenant
abbrev pub does : TenantRows → Write → TenantRows
does rows (Plain sql) = rows
does rows (Create name) = rows
does rows (Remove id) = rows
does rows (Raise id epoch) = rows
does rows (AddVersion id version text) = record rows { maps = version_row version text.now ∷ rows.maps }
does rows (ClearState id device) = record rows { devices = without_key device rows.devices }
does rows (AddState id state) = record rows { devices = state_row state ∷ rows.devices }
does rows (AddPool id pool) = record rows { pools = pool_row pool ∷ rows.pools }
does rows (RemovePool id pool) = record rows { pools = without_key pool rows.pools }
does rows (AddException id e) = record rows { exceptions = exception_row e ∷ rows.exceptions }
does rows (ClearExceptions id pool) = record rows { exceptions = without_key pool rows.exceptions }
does rows (AddReceipt id receipt) = with_receipt receipt rows

abbrev pub does_all : TenantRows → List Write → TenantRows
does_all = fold does

-- the write is one of the tenant's own rows
abbrev pub IsAbout : ℤ → Write → Type 0
IsAbout id (Plain sql) = ⊥
IsAbout id (Create name) = ⊥
IsAbout id (Remove at) = ⊥
IsAbout id (Raise at epoch) = ⊥
IsAbout id (AddVersion at version text) = at ≡ id
IsAbout id (ClearState at device) = at ≡ id
IsAbout id (AddState at state) = at ≡ id
IsAbout id (AddPool at pool) = at ≡ id
IsAbout id (RemovePool at pool) = at ≡ id
IsAbout id (AddException at e) = at ≡ id
IsAbout id (ClearExceptions at pool) = at ≡ id
IsAbout id (AddReceipt at receipt) = at ≡ id

pub record AreRows (id : ℤ) (db : Trees) (rows : TenantRows) : Type 0 where
  pub maps : IsPermutation (of_tenant maps_table id db) rows.maps
  pub devices : IsPermutation (of_tenant devices_table id db) rows.devices
  pub pools : IsPermutation (of_tenant pools_table id db) rows.pools
  pub receipts : IsPermutation (of_tenant receipts_table id db) rows.receipts
  pub exceptions : IsPermutation (of_tenant exceptions_table id db) rows.exceptions

-- what some writes of the tenant's rows do together
pub record Steps (name : List ℕ) (id : ℤ) (change : TenantRows → TenantRows) (old new : Database) : Type 0 where
  pub touches : Touches name id old new
  pub tenants : rows_in tenants_table new.trees ≡ rows_in tenants_table old.trees
  pub rows : (rows : TenantRows) → AreRows id old.trees rows → AreRows id new.trees (change rows)

-- a table that is as it was
same_table : (table : Table) (id : ℤ) (old new : Trees) (l : List Row) → rows_in table new ≡ rows_in table old → IsPermutation (of_tenant table id old) l → IsPermutation (of_tenant table id new) l
same_table table id old new l same = subst (λ all. IsPermutation (map (values_of table) (rows_with 1 (Int id) all)) l) (sym same)

-- the tenant's rows in a table without those of a key
keyed_rows : (table : Table) (id key : ℤ) (old new : Trees) (l : List Row) → ((r : Row) → column (values_of table r) 0 ≡ column r 2) → rows_in table new ≡ filter (λ r. not (is_keyed id key r)) (rows_in table old)
    → IsPermutation (of_tenant table id old) l → IsPermutation (of_tenant table id new) (without_key key l)
keyed_rows table id key old new l second rows before =
    let mine : Row → Bool = λ r. equal Binary (column r 1) (Int id) in
    let keyed : Row → Bool = λ r. equal Binary (column r 2) (Int key) in
    let first : Row → Bool = λ w. not (equal Binary (column w 0) (Int key)) in
    let left : of_tenant table id new ≡ map (values_of table) (filter (λ r. not (keyed r)) (filter mine (rows_in table old))) = ap (λ all. map (values_of table) (filter mine all)) rows ∙ ap (map (values_of table)) (filter_within mine keyed (rows_in table old)) in
    let right : filter first (of_tenant table id old) ≡ map (values_of table) (filter (λ r. first (values_of table r)) (filter mine (rows_in table old))) = filter-map first (values_of table) (filter mine (rows_in table old)) in
    let same : filter (λ r. first (values_of table r)) (filter mine (rows_in table old)) ≡ filter (λ r. not (keyed r)) (filter mine (rows_in table old)) = same_tests (λ r. first (values_of table r)) (λ r. not (keyed r)) (filter mine (rows_in table old)) (λ r. ap (λ v. not (equal Binary v (Int key))) (second r)) in
    subst (λ all. IsPermutation all (without_key key l)) (right ∙ ap (map (values_of table)) same ∙ sym left) (IsPermutation-filter first _ _ before)
  where
    same_tests : (p q : Row → Bool) (all : List Row) → ((r : Row) → p r ≡ q r) → filter p all ≡ filter q all
    same_tests p q [] same = refl
    same_tests p q (r ∷ all) same = rw (same r, same_tests p q all same) refl

within_tenant : (id key : ℤ) (r : Row) → equal Binary (column r 1) (Int id) ≡ false → is_keyed id key r ≡ false
within_tenant id key r other = rw other refl

module _ (name : List ℕ) (id : ℤ) (old new : State) (count : ℕ) (sound : AreSound old.now) where
  abbrev layout : Layout
  layout = sound.schema.0

  has : old.now.schema ≡ store_schema layout
  has = sound.schema.1

  step : (w : Write) → IsAbout id w → Executes (text_of w) (params_of w) old new (Ok count) → Steps name id (λ rows. does rows w) old.now new.now
  step (Plain sql) about h = absurd about
  step (Create name) about h = absurd about
  step (Remove at) about h = absurd about
  step (Raise at epoch) about h = absurd about
  step (AddVersion at version text) about h =
      let it = adds_version old new id count layout has sound.sound version text.now (subst (λ n. Executes (text_of (AddVersion n version text)) (params_of (AddVersion n version text)) old new (Ok count)) about h) in
      let others = it.1.others.1 in
      record {
        touches = added_touches maps_table name id it.0 _ old.now new.now refl it.1 sound.tables sound.tables.others.0;
        tenants = it.1.others.0 refl;
        rows = λ rows before. record {
          maps = added_own maps_table name id it.0 _ old.now new.now refl it.1 rows.maps before.maps;
          devices = same_table devices_table id old.now.trees new.now.trees rows.devices (others.1.0 refl) before.devices;
          pools = same_table pools_table id old.now.trees new.now.trees rows.pools (others.1.1.0 refl) before.pools;
          receipts = same_table receipts_table id old.now.trees new.now.trees rows.receipts (others.1.1.1.0 refl) before.receipts;
          exceptions = same_table exceptions_table id old.now.trees new.now.trees rows.exceptions (others.1.1.1.1.0 refl) before.exceptions;
        };
      }
  step (AddState at s) about h =
      let it = adds_state old new id count layout has sound.sound s.device s.reweight s.up (subst (λ n. Executes (text_of (AddState n s)) (params_of (AddState n s)) old new (Ok count)) about h) in
      let others = it.1.others.1 in
      record {
        touches = added_touches devices_table name id it.0 _ old.now new.now refl it.1 sound.tables sound.tables.others.1.0;
        tenants = it.1.others.0 refl;
        rows = λ rows before. record {
          maps = same_table maps_table id old.now.trees new.now.trees rows.maps (others.0 refl) before.maps;
          devices = added_own devices_table name id it.0 _ old.now new.now refl it.1 rows.devices before.devices;
          pools = same_table pools_table id old.now.trees new.now.trees rows.pools (others.1.1.0 refl) before.pools;
          receipts = same_table receipts_table id old.now.trees new.now.trees rows.receipts (others.1.1.1.0 refl) before.receipts;
          exceptions = same_table exceptions_table id old.now.trees new.now.trees rows.exceptions (others.1.1.1.1.0 refl) before.exceptions;
        };
      }
  step (AddPool at pool) about h =
      let it = adds_pool old new id count layout has sound.sound pool.id pool.name.now pool.erasure pool.size pool.rule pool.pg_num pool.pgp_num pool.hashpspool pool.pairs (subst (λ n. Executes (text_of (AddPool n pool)) (params_of (AddPool n pool)) old new (Ok count)) about h) in
      let others = it.1.others.1 in
      record {
        touches = added_touches pools_table name id it.0 _ old.now new.now refl it.1 sound.tables sound.tables.others.1.1.0;
        tenants = it.1.others.0 refl;
        rows = λ rows before. record {
          maps = same_table maps_table id old.now.trees new.now.trees rows.maps (others.0 refl) before.maps;
          devices = same_table devices_table id old.now.trees new.now.trees rows.devices (others.1.0 refl) before.devices;
          pools = added_own pools_table name id it.0 _ old.now new.now refl it.1 rows.pools before.pools;
          receipts = same_table receipts_table id old.now.trees new.now.trees rows.receipts (others.1.1.1.0 refl) before.receipts;
          exceptions = same_table exceptions_table id old.now.trees new.now.trees rows.exceptions (others.1.1.1.1.0 refl) before.exceptions;
        };
      }
  step (AddException at e) about h =
      let it = adds_exception old new id count layout has sound.sound e.pool e.place e.group e.from e.to (subst (λ n. Executes (text_of (AddException n e)) (params_of (AddException n e)) old new (Ok count)) about h) in
      let others = it.1.others.1 in
      record {
        touches = added_touches exceptions_table name id it.0 _ old.now new.now refl it.1 sound.tables sound.tables.others.1.1.1.1.0;
        tenants = it.1.others.0 refl;
        rows = λ rows before. record {
          maps = same_table maps_table id old.now.trees new.now.trees rows.maps (others.0 refl) before.maps;
          devices = same_table devices_table id old.now.trees new.now.trees rows.devices (others.1.0 refl) before.devices;
          pools = same_table pools_table id old.now.trees new.now.trees rows.pools (others.1.1.0 refl) before.pools;
          receipts = same_table receipts_table id old.now.trees new.now.trees rows.receipts (others.1.1.1.0 refl) before.receipts;
          exceptions = added_own exceptions_table name id it.0 _ old.now new.now refl it.1 rows.exceptions before.exceptions;
        };
      }
  step (AddReceipt at receipt) about h =
      let it = adds_receipt old new id count layout has sound.sound receipt.request.now receipt.path.now receipt.body.now receipt.status receipt.reply.now (subst (λ n. Executes (text_of (AddReceipt n receipt)) (params_of (AddReceipt n receipt)) old new (Ok count)) about h) in
      let others = it.1.others.1 in
      record {
        touches = added_touches receipts_table name id it.0 _ old.now new.now refl it.1 sound.tables sound.tables.others.1.1.1.0;
        tenants = it.1.others.0 refl;
        rows = λ rows before. record {
          maps = same_table maps_table id old.now.trees new.now.trees rows.maps (others.0 refl) before.maps;
          devices = same_table devices_table id old.now.trees new.now.trees rows.devices (others.1.0 refl) before.devices;
          pools = same_table pools_table id old.now.trees new.now.trees rows.pools (others.1.1.0 refl) before.pools;
          receipts = added_own receipts_table name id it.0 _ old.now new.now refl it.1 rows.receipts before.receipts;
          exceptions = same_table exceptions_table id old.now.trees new.now.trees rows.exceptions (others.1.1.1.1.0 refl) before.exceptions;
        };
      }
  step (ClearState at device) about h =
      let it = clears_state old new id device count layout has sound.sound sound.tables.others.1.0 (subst (λ n. Executes (text_of (ClearState n device)) (params_of (ClearState n device)) old new (Ok count)) about h) in
      let others = it.taken.others.1 in
      record {
        touches = taken_touches devices_table name id (is_keyed id device) old.now new.now refl (within_tenant id device) it.taken it.schema it.sound sound.tables sound.tables.others.1.0;
        tenants = it.taken.others.0 refl;
        rows = λ rows before. record {
          maps = same_table maps_table id old.now.trees new.now.trees rows.maps (others.0 refl) before.maps;
          devices = keyed_rows devices_table id device old.now.trees new.now.trees rows.devices (λ r. refl) it.taken.rows before.devices;
          pools = same_table pools_table id old.now.trees new.now.trees rows.pools (others.1.1.0 refl) before.pools;
          receipts = same_table receipts_table id old.now.trees new.now.trees rows.receipts (others.1.1.1.0 refl) before.receipts;
          exceptions = same_table exceptions_table id old.now.trees new.now.trees rows.exceptions (others.1.1.1.1.0 refl) before.exceptions;
        };
      }
  step (RemovePool at pool) about h =
      let it = removes_pool old new id pool count layout has sound.sound sound.tables.others.1.1.0 (subst (λ n. Executes (text_of (RemovePool n pool)) (params_of (RemovePool n pool)) old new (Ok count)) about h) in
      let others = it.taken.others.1 in
      record {
        touches = taken_touches pools_table name id (is_keyed id pool) old.now new.now refl (within_tenant id pool) it.taken it.schema it.sound sound.tables sound.tables.others.1.1.0;
        tenants = it.taken.others.0 refl;
        rows = λ rows before. record {
          maps = same_table maps_table id old.now.trees new.now.trees rows.maps (others.0 refl) before.maps;
          devices = same_table devices_table id old.now.trees new.now.trees rows.devices (others.1.0 refl) before.devices;
          pools = keyed_rows pools_table id pool old.now.trees new.now.trees rows.pools (λ r. refl) it.taken.rows before.pools;
          receipts = same_table receipts_table id old.now.trees new.now.trees rows.receipts (others.1.1.1.0 refl) before.receipts;
          exceptions = same_table exceptions_table id old.now.trees new.now.trees rows.exceptions (others.1.1.1.1.0 refl) before.exceptions;
        };
      }
  step (ClearExceptions at pool) about h =
      let it = clears_exceptions old new id pool count layout has sound.sound sound.tables.others.1.1.1.1.0 (subst (λ n. Executes (text_of (ClearExceptions n pool)) (params_of (ClearExceptions n pool)) old new (Ok count)) about h) in
      let others = it.taken.others.1 in
      record {
        touches = taken_touches exceptions_table name id (is_keyed id pool) old.now new.now refl (within_tenant id pool) it.taken it.schema it.sound sound.tables sound.tables.others.1.1.1.1.0;
        tenants = it.taken.others.0 refl;
        rows = λ rows before. record {
          maps = same_table maps_table id old.now.trees new.now.trees rows.maps (others.0 refl) before.maps;
          devices = same_table devices_table id old.now.trees new.now.trees rows.devices (others.1.0 refl) before.devices;
          pools = same_table pools_table id old.now.trees new.now.trees rows.pools (others.1.1.0 refl) before.pools;
          receipts = same_table receipts_table id old.now.trees new.now.trees rows.receipts (others.1.1.1.0 refl) before.receipts;
          exceptions = keyed_rows exceptions_table id pool old.now.trees new.now.trees rows.exceptions (λ r. refl) it.taken.rows before.exceptions;
        };
      }

-- the tables are sound after a change of one tenant
sound_after : (name : List ℕ) (id : ℤ) (old new : Database) → AreSound old → Touches name id old new → AreSound new
sound_after name id old new sound it = record { schema = (sound.schema.0, it.schema ∙ sound.schema.1); tables = it.tables; sound = it.sound }

module _ {S : Type 0} (g : Ghosts S) (name : List ℕ) (id : ℤ) where
  -- the writes in turn
  steps : (writes : List Write) (old last : Held S) → AreSound (state g old).now → AllByRecursion (IsAbout id) writes → Ran g writes old last
      → Steps name id (λ rows. does_all rows writes) (state g old).now (state g last).now
  steps [] old last sound about ran =
      subst (λ h. Steps name id (λ rows. rows) (state g old).now (state g h).now) (sym ran)
      (record {
        touches = record { schema = refl; sound = sound.sound; tables = sound.tables; tenants = λ other away. refl; rows = λ v away. all_of (λ t. rows_with 1 v (rows_in t (state g old).now.trees) ≡ rows_with 1 v (rows_in t (state g old).now.trees)) (λ t. refl) tables_of_tenants };
        tenants = refl;
        rows = λ rows before. before;
      })
  steps (w ∷ writes) old last sound about ran =
      let one = step name id (state g old) (state g ran.0) ran.1 sound w about.0 ran.3 in
      let more = steps writes ran.0 last (sound_after name id (state g old).now (state g ran.0).now sound one.touches) about.1 ran.4 in
      record {
        touches = touches_then name id (state g old).now (state g ran.0).now (state g last).now one.touches more.touches;
        tenants = more.tenants ∙ one.tenants;
        rows = λ rows before. more.rows (does rows w) (one.rows rows before);
      }

module _ {S : Type 0} (g : Ghosts S) (old : Held S) (ready : IsReady (state g old)) (id e : ℤ) (writes : List Write) (about : AllByRecursion (IsAbout id) writes) (db : Database) (made : Makes g (Raise id e ∷ writes) old db) where
  module _ (name : List ℕ) (epoch : ℕ) (tenant : IsTenant (state g old).now.trees name id epoch) where
    abbrev before : Database
    before = (state g old).now

    abbrev mid : Database
    mid = (state g made.1.0).now

    raised_is : Rattle.tenant_tables.proofs.Raising.Raised id name e before mid
    raised_is = raises (state g (begun g old)) (state g made.1.0) name e tenant.row id made.1.1 ready.schema.0 ready.schema.1 ready.sound (alone before.trees name id epoch tenant ready.tables) tenant.number (named before.trees name id epoch tenant) made.1.3

    raise_touches : Touches name id before mid
    raise_touches = raised_touches name id e epoch before mid ready.tables tenant raised_is

    more_is : Steps name id (λ rows. does_all rows writes) mid (state g made.0).now
    more_is = steps g name id writes made.1.0 made.0 (sound_after name id before mid (record { schema = ready.schema; tables = ready.tables; sound = ready.sound }) raise_touches) about made.1.4

    all_touches : Touches name id before (state g made.0).now
    all_touches = touches_then name id before mid (state g made.0).now raise_touches more_is.touches

    pub accepted_sound : AreSound db
    accepted_sound = subst AreSound (sym made.2) (sound_after name id before (state g made.0).now (record { schema = ready.schema; tables = ready.tables; sound = ready.sound }) all_touches)

  pub accepts : (name : List ℕ) (rows : TenantRows) (epoch : ℕ) → (held : Holds (state g old).now.trees name rows) → held.id ≡ id → e ≡ pos epoch
      → Turns name (λ trees. Holds trees name (record (does_all rows writes) { epoch = epoch })) (state g old).now.trees db.trees
  accepts name rows epoch held same is =
      let tenant = subst (λ n. IsTenant (state g old).now.trees name n rows.epoch) same held.tenant in
      let last = (state g made.0).now in
      let more = more_is name rows.epoch tenant in
      let first = raised_is name rows.epoch tenant in
      let kept : AreRows id (state g old).now.trees rows = record {
        maps = subst (λ n. IsPermutation (of_tenant maps_table n (state g old).now.trees) rows.maps) same held.maps;
        devices = subst (λ n. IsPermutation (of_tenant devices_table n (state g old).now.trees) rows.devices) same held.devices;
        pools = subst (λ n. IsPermutation (of_tenant pools_table n (state g old).now.trees) rows.pools) same held.pools;
        receipts = subst (λ n. IsPermutation (of_tenant receipts_table n (state g old).now.trees) rows.receipts) same held.receipts;
        exceptions = subst (λ n. IsPermutation (of_tenant exceptions_table n (state g old).now.trees) rows.exceptions) same held.exceptions;
      } in
      let there = (state g old).now.trees in
      let here = (state g made.1.0).now.trees in
      let after = more.rows rows (record {
        maps = same_table maps_table id there here rows.maps first.others.0 kept.maps;
        devices = same_table devices_table id there here rows.devices first.others.1.0 kept.devices;
        pools = same_table pools_table id there here rows.pools first.others.1.1.0 kept.pools;
        receipts = same_table receipts_table id there here rows.receipts first.others.1.1.1.0 kept.receipts;
        exceptions = same_table exceptions_table id there here rows.exceptions first.others.1.1.1.1.0 kept.exceptions;
      }) in
      subst (λ (d : Database). Turns name (λ trees. Holds trees name (record (does_all rows writes) { epoch = epoch })) there d.trees) (sym made.2)
      (record {
        own = record {
          id = id;
          tenant = record {
            row = Int id ∷ Null ∷ Words name ∷ Int e ∷ [];
            one = ap (rows_with 2 (Words name)) more.tenants ∙ raised_row_is name id e rows.epoch (state g old).now (state g made.1.0).now ready.tables tenant first;
            number = refl;
            epoch_is = ap Int is;
          };
          maps = after.maps;
          devices = after.devices;
          pools = after.pools;
          receipts = after.receipts;
          exceptions = after.exceptions;
        };
        others = touched name id rows.epoch (state g old).now last ready.tables tenant (all_touches name rows.epoch tenant);
      })
