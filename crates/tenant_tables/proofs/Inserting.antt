-- What INSERT makes of the tables.
use Rattle.std.proofs.Common.{◌≡◌, ◌≢◌, ◌⊎◌, inl, inr, ℕ, ℤ, ◌/◌, List, [], ◌∷◌, length, slice_get, Bool, true, false, cond, if◌then◌else◌, not, ◌&&◌, Some, None, Ok, Err, Result, refl, sym, ap, subst, ◌∙◌, true≢false}
use Rattle.std.proofs.Math.Dec.{eqb}
use Rattle.std.proofs.lemmas.Bool.{eq-eqb}
use Rattle.std.specs.Bool.{MatchBool}
use Rattle.std.specs.List.{AllByRecursion}
use Rattle.table_schema.specs.sqlite_value.specs.declared.value.Value.{Value}
use Rattle.table_schema.specs.sqlite_value.specs.declared.value.Value.TheVariants.{Null, Int, Text as Words}
use Rattle.table_schema.specs.sqlite_value.specs.Order.{Row}
use Rattle.sqlite_trees.specs.Tree.{Trees, put_row, rowid}
use Rattle.sqlite_trees.specs.View.{is_int}
use Rattle.table_schema.specs.sqlite_sql.specs.Ops.{unary}
use Rattle.table_schema.specs.sqlite_schema.specs.declared.schema.Keys.TheVariants.{Enforced}
use Rattle.table_schema.specs.sqlite_schema.specs.declared.schema.Table.{Table}
use Rattle.table_schema.specs.sqlite_schema.specs.declared.schema.Schema.{Schema}
use Rattle.table_schema.specs.sqlite_schema.specs.Names.{same_name}
use Rattle.table_schema.specs.sqlite_value.specs.Keys.{joined}
use Rattle.table_schema.specs.sqlite_tied.specs.Compute.{everything}
use Rattle.table_schema.specs.sqlite_rules.specs.Cast.{cast, cast_row}
use Rattle.table_schema.specs.sqlite_rules.specs.Edit.{edit_of, is_taken, are_fresh, next_rowid, with_rowid}
use Rattle.table_schema.specs.sqlite_rules.specs.Action.{Writes as Leaves, works}
use Rattle.table_schema.specs.sqlite_rules.specs.declared.error.Rowids.TheVariants.{Chosen, Above}
use Rattle.sqlite.specs.Kind.TheVariants.{Integer}
use Rattle.sqlite.specs.Term.{Term}
use Rattle.sqlite.specs.Source.TheVariants.{Values}
use Rattle.sqlite.specs.Command.TheVariants.{Insert}
use Rattle.sqlite.specs.Does.{Tally, Does}
use Rattle.sqlite.specs.Rows.{Written, stamped}
use Rattle.sqlite.specs.Listing.{understood}
use Rattle.sqlite.specs.Effect.{Database, IsDatabase, value_rows}
use Rattle.sqlite.specs.State.{State, mode_of, Executes}
use Rattle.sqlite.proofs.Callers.{IsPlain, command_of, statement_of, runs_as, one_step}
use Rattle.table_schema.specs.declared.schema.Layout.{Layout}
use Rattle.table_schema.specs.declared.schema.Layout.TheVariants.{Compact, Gapped}
use Rattle.table_schema.specs.Layout.{store_schema, receipts_tree, pools_tree, exceptions_tree, placed, maps_table, devices_table, pools_table, receipts_table, exceptions_table}
use Rattle.table_schema.specs.Holds.{tree_of, rows_in}
use Rattle.table_schema.proofs.Places.{Places, places}
use Rattle.tenant_tables.proofs.Named.{OthersStay, but_maps, but_devices, but_pools, but_receipts, but_exceptions}
use Rattle.tenant_tables.proofs.WriteTexts.{add_version_text, add_version_is, add_state_text, add_state_is, add_pool_text, add_pool_is, add_receipt_text, add_receipt_is, add_exception_text, add_exception_is}

-- a part that gave a value did not stop on the way
pub went : {B E R : Type 0} {b : B} {Stops : E → Type 0} → ((stop : E) × Stops stop × (Ok b ≡ Err stop)) ⊎ R → R
went (inl stopped) = absurd (let e = stopped.2 in cc)
went (inr on) = on

pub same_value : {B E : Type 0} {a b : B} → ◌≡◌ {A = Result B E} (Ok a) (Ok b) → a ≡ b
same_value e = cc

either : (b : Bool) (x : Value) → cond b x x ≡ x
either true x = refl
either false x = refl

pub cast_null : cast Integer Null ≡ Null
unfolding unary
cast_null = either _ Null

pub cast_int : (n : ℤ) → cast Integer (Int n) ≡ Int n
unfolding unary
cast_int n = either _ (Int n)

pub not_taken : (b : Bool) → (not b && true) ≡ true → b ≡ false
not_taken true e = cc
not_taken false e = refl

pub unlike : (m n : ℕ) → eqb m n ≡ false → m ≡ n → ⊥
unlike m n apart e = true≢false (sym (eq-eqb m n e) ∙ apart)

never : (P Q : Type 0) (b l : Bool) → b ≡ false → MatchBool (if b then l else false) P Q → Q
never P Q true l e h = absurd (true≢false e)
never P Q false l e h = h

chosen : (b : Bool) (top : ℤ) → b ≡ false → (if b then Above top else Chosen) ≡ Chosen
chosen true top e = absurd (true≢false e)
chosen false top e = refl

-- a row is put into the table, and the others are as they were
pub record Added (table : Table) (row : Row) (old new : Database) : Type 0 where
  pub schema : new.schema ≡ old.schema
  pub sound : IsDatabase new
  pub keyed : is_int (rowid row) ≡ true
  pub free : is_taken (rows_in table old.trees) row ≡ false
  pub rows : rows_in table new.trees ≡ put_row row (rows_in table old.trees)
  pub others : OthersStay table old.trees new.trees

-- the step that INSERT comes to, for a table that counts no rowids
pub record Inserted (schema : Schema) (table : Table) (source : Row) (old new : Database) : Type 0 where
  pub same : new.schema ≡ old.schema
  pub sound : IsDatabase new
  pub edit : Leaves schema Enforced old.trees (edit_of old.trees table [] Chosen 0 (source ∷ [])) (Ok new.trees)

module _ (old new : State) (count : ℕ) (schema : Schema) (has : old.now.schema ≡ schema) where
  pub inserts : (table : Table) (place : ℕ) (text : List ℕ) (terms : List Term) (params source : Row)
      → command_of (understood schema text) ≡ Insert place (Values terms (length terms)) → IsPlain (understood schema text) → slice_get schema.tables place ≡ Some table → table.is_counted ≡ false
      → value_rows (stamped table params) (length terms) (length terms / length terms) terms ≡ source ∷ [] → Executes text params old new (Ok count) → Inserted schema table source old.now new.now
  inserts table place text terms params source is_command plain there uncounted values h =
      let command = Insert place (Values terms (length terms)) in
      let w = runs_as text params old new schema has command is_command plain count h in
      let statement = statement_of text (understood schema text) in
      let does = subst (λ s. Does old.step_limit (mode_of old) params (record old.now { schema = s }) statement None command (Ok (w.tally, new.now))) has w.changed in
      let done = went (rw there at does) in
      let now = ap (λ (p : Tally × Database). p.1) (same_value (went (went done.2).2).2) in
      let given = went done.1 in
      let counter = went given.2 in
      let edited = went counter.2 in
      let counted = went edited.2 in
      let still : counted.0 ≡ edited.0 = same_value (never _ _ table.is_counted _ uncounted counted.1) in
      let trees : new.now.trees ≡ edited.0 = ap (λ (d : Database). d.trees) now ∙ ap (λ (it : Written). it.trees) (same_value counted.2) ∙ still in
      record {
        same = ap (λ (d : Database). d.schema) now ∙ sym has;
        sound = w.sound;
        edit = subst (λ t. Leaves schema Enforced old.now.trees (edit_of old.now.trees table [] Chosen 0 (source ∷ [])) (Ok t)) (sym trees)
            (subst (λ all. Leaves schema Enforced old.now.trees (edit_of old.now.trees table [] Chosen 0 all) (Ok edited.0)) (given.1.1 ∙ values)
            (subst (λ how. Leaves schema Enforced old.now.trees (edit_of old.now.trees table [] how 0 given.0) (Ok edited.0)) (chosen table.is_counted _ uncounted) edited.1));
      }

pub keyed_row : (b : Bool) → (b && true) ≡ true → b ≡ true
keyed_row true e = refl
keyed_row false e = e

-- what is put into a table of tenants' rows sets nothing off
pub nothing_put : (layout : Layout) (row : Row)
    → (works (store_schema layout) Enforced 0 4 [] (row ∷ []) ≡ [])
    × (works (store_schema layout) Enforced 0 6 [] (row ∷ []) ≡ [])
    × (works (store_schema layout) Enforced 0 (pools_tree layout) [] (row ∷ []) ≡ [])
    × (works (store_schema layout) Enforced 0 (receipts_tree layout) [] (row ∷ []) ≡ [])
    × (works (store_schema layout) Enforced 0 (exceptions_tree layout) [] (row ∷ []) ≡ [])
unfolding everything same_name joined
nothing_put Compact row = (refl, refl, refl, refl, refl)
nothing_put Gapped row = (refl, refl, refl, refl, refl)

module _ (old new : State) (layout : Layout) (has : old.now.schema ≡ store_schema layout) (sound : IsDatabase old.now) where
  -- a row of the table in this tree
  adds : (table : Table) (tree : ℕ) (source row : Row) → tree_of old.now.trees table.name ≡ tree → (Places layout new.now.trees → tree_of new.now.trees table.name ≡ tree)
      → (Places layout new.now.trees → AllByRecursion (λ t. t.tree ≢ tree → new.now.trees t.tree ≡ old.now.trees t.tree) (store_schema layout).tables → OthersStay table old.now.trees new.now.trees)
      → ((new_row : Row) → works (store_schema layout) Enforced 0 tree [] (new_row ∷ []) ≡ []) → with_rowid Chosen (old.now.trees tree) (cast_row (placed tree table) source) ≡ row
      → Inserted (store_schema layout) (placed tree table) source old.now new.now → Added table row old.now new.now
  adds table tree source row was is others nothing news it =
      let db = old.now.trees in
      let step = one_step (store_schema layout) Enforced db new.now.trees (edit_of db (placed tree table) [] Chosen 0 (source ∷ [])) (nothing (with_rowid Chosen (db tree) (cast_row (placed tree table) source))) it.edit in
      let after = places layout new.now it.sound (it.same ∙ has) in
      let here : rows_in table db ≡ db tree = ap db was in
      record {
        schema = it.same;
        sound = it.sound;
        keyed = keyed_row _ (subst (λ r. (is_int (rowid r) && true) ≡ true) news step.keyed);
        free = subst (λ rows. is_taken rows row ≡ false) (sym here) (not_taken _ (subst (λ r. are_fresh (db tree) (r ∷ []) ≡ true) news step.fresh));
        rows = ap new.now.trees (is after) ∙ step.rows ∙ ap (λ r. put_row r (db tree)) news ∙ ap (put_row row) (sym here);
        others = others after step.tables;
      }

-- ---- each statement

row_of : (db : Trees) (n : ℕ) (values : Row) → with_rowid Chosen (db n) (cast Integer Null ∷ values) ≡ Int (next_rowid (db n)) ∷ values
row_of db n values = rw cast_null

module _ (old new : State) (id : ℤ) (count : ℕ) (layout : Layout) (has : old.now.schema ≡ store_schema layout) (sound : IsDatabase old.now) where
  before : Places layout old.now.trees
  before = places layout old.now sound has

  pub adds_version : (version : ℤ) (text : List ℕ) → Executes add_version_text (Int id ∷ Int version ∷ Words text ∷ []) old new (Ok count) → (at : ℤ) × Added maps_table (Int at ∷ Int id ∷ Int version ∷ Words text ∷ []) old.now new.now
  adds_version version text h =
      let it = inserts old new count (store_schema layout) has (placed 4 maps_table) 3 add_version_text _ _ (Null ∷ Int id ∷ Int version ∷ Words text ∷ []) (add_version_is layout).command (add_version_is layout).plain refl refl refl h in (
        next_rowid (old.now.trees 4),
        adds old new layout has sound maps_table 4 _ _ before.maps (λ after. after.maps) (λ after. but_maps layout old.now.trees new.now.trees before after) (λ r. (nothing_put layout r).0)
            (row_of old.now.trees 4 _ ∙ rw (cast_int id, cast_int version)) it,
      )

  pub adds_state : (device : ℤ) (reweight : ℤ) (up : ℤ) → Executes add_state_text (Int id ∷ Int device ∷ Int reweight ∷ Int up ∷ []) old new (Ok count) → (at : ℤ) × Added devices_table (Int at ∷ Int id ∷ Int device ∷ Int reweight ∷ Int up ∷ []) old.now new.now
  adds_state device reweight up h =
      let it = inserts old new count (store_schema layout) has (placed 6 devices_table) 4 add_state_text _ _ (Null ∷ Int id ∷ Int device ∷ Int reweight ∷ Int up ∷ []) (add_state_is layout).command (add_state_is layout).plain refl refl refl h in (
        next_rowid (old.now.trees 6),
        adds old new layout has sound devices_table 6 _ _ before.devices (λ after. after.devices) (λ after. but_devices layout old.now.trees new.now.trees before after) (λ r. (nothing_put layout r).1)
            (row_of old.now.trees 6 _ ∙ rw (cast_int id, cast_int device, cast_int reweight, cast_int up)) it,
      )

  pub adds_pool : (pool : ℤ) (name : List ℕ) (erasure : ℤ) (size : ℤ) (rule : ℤ) (pg_num : ℤ) (pgp_num : ℤ) (hashpspool : ℤ) (pairs : ℤ) → Executes add_pool_text (Int id ∷ Int pool ∷ Words name ∷ Int erasure ∷ Int size ∷ Int rule ∷ Int pg_num ∷ Int pgp_num ∷ Int hashpspool ∷ Int pairs ∷ []) old new (Ok count) → (at : ℤ) × Added pools_table (Int at ∷ Int id ∷ Int pool ∷ Words name ∷ Int erasure ∷ Int size ∷ Int rule ∷ Int pg_num ∷ Int pgp_num ∷ Int hashpspool ∷ Int pairs ∷ []) old.now new.now
  adds_pool pool name erasure size rule pg_num pgp_num hashpspool pairs h =
      let it = inserts old new count (store_schema layout) has (placed (pools_tree layout) pools_table) 6 add_pool_text _ _ (Null ∷ Int id ∷ Int pool ∷ Words name ∷ Int erasure ∷ Int size ∷ Int rule ∷ Int pg_num ∷ Int pgp_num ∷ Int hashpspool ∷ Int pairs ∷ []) (add_pool_is layout).command (add_pool_is layout).plain refl refl refl h in (
        next_rowid (old.now.trees (pools_tree layout)),
        adds old new layout has sound pools_table (pools_tree layout) _ _ before.pools (λ after. after.pools) (λ after. but_pools layout old.now.trees new.now.trees before after) (λ r. (nothing_put layout r).2)
            (row_of old.now.trees (pools_tree layout) _ ∙ rw (cast_int id, cast_int pool, cast_int erasure, cast_int size, cast_int rule, cast_int pg_num, cast_int pgp_num, cast_int hashpspool, cast_int pairs)) it,
      )

  pub adds_receipt : (request : List ℕ) (path : List ℕ) (body : List ℕ) (status : ℤ) (reply : List ℕ) → Executes add_receipt_text (Int id ∷ Words request ∷ Words path ∷ Words body ∷ Int status ∷ Words reply ∷ []) old new (Ok count) → (at : ℤ) × Added receipts_table (Int at ∷ Int id ∷ Words request ∷ Words path ∷ Words body ∷ Int status ∷ Words reply ∷ []) old.now new.now
  adds_receipt request path body status reply h =
      let it = inserts old new count (store_schema layout) has (placed (receipts_tree layout) receipts_table) 5 add_receipt_text _ _ (Null ∷ Int id ∷ Words request ∷ Words path ∷ Words body ∷ Int status ∷ Words reply ∷ []) (add_receipt_is layout).command (add_receipt_is layout).plain refl refl refl h in (
        next_rowid (old.now.trees (receipts_tree layout)),
        adds old new layout has sound receipts_table (receipts_tree layout) _ _ before.receipts (λ after. after.receipts) (λ after. but_receipts layout old.now.trees new.now.trees before after) (λ r. (nothing_put layout r).3)
            (row_of old.now.trees (receipts_tree layout) _ ∙ rw (cast_int id, cast_int status)) it,
      )

  pub adds_exception : (pool : ℤ) (place : ℤ) (group : ℤ) (from : ℤ) (to : ℤ) → Executes add_exception_text (Int id ∷ Int pool ∷ Int place ∷ Int group ∷ Int from ∷ Int to ∷ []) old new (Ok count) → (at : ℤ) × Added exceptions_table (Int at ∷ Int id ∷ Int pool ∷ Int place ∷ Int group ∷ Int from ∷ Int to ∷ []) old.now new.now
  adds_exception pool place group from to h =
      let it = inserts old new count (store_schema layout) has (placed (exceptions_tree layout) exceptions_table) 7 add_exception_text _ _ (Null ∷ Int id ∷ Int pool ∷ Int place ∷ Int group ∷ Int from ∷ Int to ∷ []) (add_exception_is layout).command (add_exception_is layout).plain refl refl refl h in (
        next_rowid (old.now.trees (exceptions_tree layout)),
        adds old new layout has sound exceptions_table (exceptions_tree layout) _ _ before.exceptions (λ after. after.exceptions) (λ after. but_exceptions layout old.now.trees new.now.trees before after) (λ r. (nothing_put layout r).4)
            (row_of old.now.trees (exceptions_tree layout) _ ∙ rw (cast_int id, cast_int pool, cast_int place, cast_int group, cast_int from, cast_int to)) it,
      )
