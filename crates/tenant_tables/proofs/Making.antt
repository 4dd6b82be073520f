-- How the tables are made.
use Rattle.std.proofs.Common.{◌≡◌, ◌≢◌, ◌==◌, ℕ, pos, List, [], ◌∷◌, map, flat_map, filter_map, length, Bool, true, false, ◌&&◌, cond, Option, Some, None, Ok, refl, sym, ap, subst, ◌∙◌}
use Rattle.std.proofs.Math.Dec.{eqb}
use Rattle.std.specs.List.{AllByRecursion}
use Rattle.table_schema.specs.sqlite_value.specs.declared.value.Value.TheVariants.{Null, Int}
use Rattle.table_schema.specs.sqlite_value.specs.Order.{Row, column}
use Rattle.sqlite_trees.specs.Tree.{put_row}
use Rattle.table_schema.specs.sqlite_schema.specs.declared.schema.Keys.TheVariants.{Enforced}
use Rattle.table_schema.specs.sqlite_schema.specs.declared.schema.Reference.{Reference}
use Rattle.table_schema.specs.sqlite_schema.specs.Rules.{ParentKey, parent_key}
use Rattle.table_schema.specs.sqlite_rules.specs.declared.action.Deed.{Deed}
use Rattle.table_schema.specs.sqlite_rules.specs.declared.error.Rowids.TheVariants.{Chosen}
use Rattle.table_schema.specs.sqlite_rules.specs.Edit.{edit_of, put_all}
use Rattle.table_schema.specs.sqlite_rules.specs.Action.{Work, work_by, work_for, works, deed_for}
use Rattle.table_schema.specs.sqlite_schema.specs.Names.{same_name}
use Rattle.table_schema.specs.sqlite_catalog.specs.Change.{KeepsRows}
use Rattle.table_schema.specs.sqlite_tied.specs.Compute.{everything}
use Rattle.sqlite.specs.Table.{Table}
use Rattle.sqlite.specs.Schema.{Schema}
use Rattle.sqlite.specs.Command.TheVariants.{CreateTable}
use Rattle.sqlite.specs.Compile.{table_defined_by}
use Rattle.sqlite.specs.Change.{created, next_tree}
use Rattle.sqlite.specs.Does.{Tally, MakesTable, sequence_text, lacks_sequence}
use Rattle.sqlite.specs.Effect.{Database, IsDatabase}
use Rattle.sqlite.specs.State.{State, Writes, Executes}
use Rattle.sqlite.proofs.Callers.{runs_as, one_step}
use Rattle.table_schema.specs.declared.schema.Layout.TheVariants.{Compact}
use Rattle.table_schema.specs.Layout.{no_schema, schema_with_devices, store_schema, info_table, tenants_table, sequence_table, maps_table, devices_table, receipts_table, pools_table, exceptions_table}
use Rattle.table_schema.proofs.Places.{places}
use Rattle.tenant_tables.specs.Opened.{IsBare}
use Rattle.tenant_tables.proofs.TableTexts.{Makes, schema_with_info, schema_with_tenants, schema_with_maps, schema_with_receipts, schema_with_pools, first_with_pools, first_with_exceptions, new_is, info_text, tenants_text, maps_text, devices_text, pools_text, exceptions_text, receipts_text, version_text, info_is, tenants_are, sequence_is, maps_are, devices_are, receipts_are, pools_are, exceptions_are, version_is}
use Rattle.tenant_tables.proofs.Inserting.{went, same_value, unlike, cast_null, cast_int, inserts}

lacks : (lacks_sequence schema_with_info ≡ false) × (lacks_sequence (created schema_with_info tenants_table) ≡ true)
unfolding everything same_name
lacks = (refl, refl)

pub lacks_more : (lacks_sequence schema_with_maps ≡ false)
    × (lacks_sequence schema_with_devices ≡ false)
    × (lacks_sequence schema_with_receipts ≡ false)
    × (lacks_sequence schema_with_pools ≡ false)
    × (lacks_sequence (created schema_with_pools exceptions_table) ≡ false)
    × (lacks_sequence first_with_pools ≡ false)
    × (lacks_sequence first_with_exceptions ≡ false)
unfolding everything same_name
lacks_more = (refl, refl, refl, refl, refl, refl, refl)

-- a table is there, without rows, and each other has its rows
pub record MadeTable (schema : Schema) (table : Table) (old new : Database) : Type 0 where
  pub is : new.schema ≡ created schema table
  pub empty : new.trees (next_tree schema) ≡ []
  pub others : KeepsRows schema.tables old.trees new.trees

made_table : (schema : Schema) (text : List ℕ) (table : Table) (old new : Database) → old.schema ≡ schema → table_defined_by text ≡ Ok table → MakesTable text old (Ok new) → MadeTable schema table old new
made_table schema text table old new has defined made =
    let both : Ok made.table ≡ Ok table = sym made.defined ∙ defined in
    let same : made.table ≡ table = cc in
    record {
      is = made.is ∙ ap (λ s. created s made.table) has ∙ ap (created schema) same;
      empty = subst (λ s. new.trees (next_tree s) ≡ []) has made.empty;
      others = subst (λ s. KeepsRows s.tables old.trees new.trees) has made.others;
    }

-- a table that needs no table beside it
pub makes : (old new : State) (schema : Schema) (text : List ℕ) (table : Table) (count : ℕ) → old.now.schema ≡ schema → Makes schema text table → lacks_sequence (created schema table) ≡ false
    → Executes text [] old new (Ok count) → MadeTable schema table old.now new.now
makes old new schema text table count has by alone h =
    let w = subst (λ t. Writes old new None CreateTable t [] count) by.statement (runs_as text [] old new schema has CreateTable by.command by.plain count h) in
    let all = went w.changed in
    let first = went all.1 in
    let it = made_table schema text table old.now first.0 has by.defined first.1 in
    let plain : lacks_sequence first.0.schema ≡ false = ap lacks_sequence it.is ∙ alone in
    let now : new.now ≡ first.0 = ap (λ (p : Tally × Database). p.1) (same_value all.2) ∙ same_value (rw plain at first.2) in
    subst (MadeTable schema table old.now) (sym now) it

-- the first table with AUTOINCREMENT makes SQLite's own table of counts
makes_counted : (old new : State) (count : ℕ) → old.now.schema ≡ schema_with_info → Executes tenants_text [] old new (Ok count)
    → (mid : Database) × MadeTable schema_with_info tenants_table old.now mid × MadeTable (created schema_with_info tenants_table) sequence_table mid new.now
makes_counted old new count has h =
    let by = tenants_are in
    let w = subst (λ t. Writes old new None CreateTable t [] count) by.statement (runs_as tenants_text [] old new schema_with_info has CreateTable by.command by.plain count h) in
    let all = went w.changed in
    let first = went all.1 in
    let it = made_table schema_with_info tenants_text tenants_table old.now first.0 has by.defined first.1 in
    let counted : lacks_sequence first.0.schema ≡ true = ap lacks_sequence it.is ∙ lacks.1 in
    let second = made_table (created schema_with_info tenants_table) sequence_text sequence_table first.0 all.0 it.is sequence_is (rw counted at first.2) in
    let now : new.now ≡ all.0 = ap (λ (p : Tally × Database). p.1) (same_value all.2) in
    (first.0, it, subst (MadeTable (created schema_with_info tenants_table) sequence_table first.0) (sym now) second)

-- ---- what is put into a table sets nothing off

module _ (schema : Schema) (depth tree : ℕ) (news : List Row) where
  no_work : (child : Table) (ref : Reference) (o : Option Deed) (key : Option ParentKey) → work_by depth tree [] child ref o key ≡ None
  no_work child ref None key = refl
  no_work child ref (Some deed) None = refl
  no_work child ref (Some deed) (Some key) = neither (key.0 == tree) (record { depth = depth; child = child; ref = ref; places = key.1; order = key.2; deed = deed; moves = [] })
    where
      neither : (b : Bool) (w : Work) → cond (b && false) (Some w) None ≡ None
      neither true w = refl
      neither false w = refl

  no_works : (child : Table) (refs : List Reference) → filter_map (work_for schema Enforced depth tree [] news child) refs ≡ []
  no_works child [] = refl
  no_works child (ref ∷ refs) = rw (no_work child ref (deed_for Enforced (length news == 0) ref) (parent_key schema.tables ref)) (no_works child refs)

  none_of : (tables : List Table) → flat_map (λ child. filter_map (work_for schema Enforced depth tree [] news child) child.references) tables ≡ []
  none_of [] = refl
  none_of (t ∷ tables) = rw (no_works t t.references) (none_of tables)

  pub nothing_put : works schema Enforced depth tree [] news ≡ []
  nothing_put = none_of schema.tables

-- ---- the version

abbrev pub version_row : Row
version_row = Int (pos 1) ∷ Null ∷ Int (pos 2) ∷ []

-- the row that says the version
pub record Versioned (old new : Database) : Type 0 where
  pub schema : new.schema ≡ old.schema
  pub sound : IsDatabase new
  pub rows : new.trees 0 ≡ put_row version_row (old.trees 0)
  pub others : AllByRecursion (λ t. t.tree ≢ 0 → new.trees t.tree ≡ old.trees t.tree) (store_schema Compact).tables

versioned : (old new : State) (count : ℕ) → old.now.schema ≡ store_schema Compact → Executes version_text [] old new (Ok count) → Versioned old.now new.now
versioned old new count has h =
    let it = inserts old new count (store_schema Compact) has info_table 0 version_text _ [] version_row version_is.command version_is.plain refl refl refl h in
    let db = old.now.trees in
    let edit = edit_of db info_table [] Chosen 0 (version_row ∷ []) in
    let step = one_step (store_schema Compact) Enforced db new.now.trees edit (nothing_put (store_schema Compact) 0 0 edit.news) it.edit in
    let news : edit.news ≡ version_row ∷ [] = rw (cast_int (pos 1), cast_null, cast_int (pos 2)) in
    record {
      schema = it.same;
      sound = it.sound;
      rows = step.rows ∙ ap (put_all (db 0)) news;
      others = step.tables;
    }

pub made_bare : (s0 s1 s2 s3 s4 s5 s6 s7 s8 : State) (n1 n2 n3 n4 n5 n6 n7 n8 : ℕ) → s0.now.schema ≡ no_schema → Executes info_text [] s0 s1 (Ok n1) → Executes tenants_text [] s1 s2 (Ok n2) → Executes maps_text [] s2 s3 (Ok n3)
    → Executes devices_text [] s3 s4 (Ok n4) → Executes receipts_text [] s4 s5 (Ok n5) → Executes pools_text [] s5 s6 (Ok n6) → Executes exceptions_text [] s6 s7 (Ok n7) → Executes version_text [] s7 s8 (Ok n8) → IsBare s8.now
made_bare s0 s1 s2 s3 s4 s5 s6 s7 s8 n1 n2 n3 n4 n5 n6 n7 n8 has one two three four five six seven eight =
    let infos = makes s0 s1 no_schema info_text info_table n1 has info_is lacks.0 one in
    let names = makes_counted s1 s2 n2 infos.is two in
    let third = makes s2 s3 schema_with_tenants maps_text maps_table n3 names.2.is maps_are lacks_more.0 three in
    let fourth = makes s3 s4 schema_with_maps devices_text devices_table n4 third.is devices_are lacks_more.1 four in
    let fifth = makes s4 s5 schema_with_devices receipts_text receipts_table n5 fourth.is receipts_are lacks_more.2 five in
    let sixth = makes s5 s6 schema_with_receipts pools_text pools_table n6 fifth.is pools_are lacks_more.3 six in
    let seventh = makes s6 s7 schema_with_pools exceptions_text exceptions_table n7 sixth.is exceptions_are lacks_more.4 seven in
    let last = versioned s7 s8 n8 (seventh.is ∙ new_is) eight in
    let db = s8.now.trees in
    let schema : s8.now.schema ≡ store_schema Compact = last.schema ∙ seventh.is ∙ new_is in
    let at = places Compact s8.now last.sound schema in
    let info-7 : s7.now.trees 0 ≡ [] = seventh.others.0 ∙ sixth.others.0 ∙ fifth.others.0 ∙ fourth.others.0 ∙ third.others.0 ∙ names.2.others.0 ∙ names.1.others.0 ∙ infos.empty in
    let others = last.others in
    let later : (m : ℕ) → eqb m 0 ≡ false → m ≢ 0 = λ m. unlike m 0 in
    record {
      schema = (Compact, schema);
      version = ap (map (λ row. column row 0 ∷ column row 2 ∷ [])) (ap db at.info ∙ last.rows ∙ ap (put_row version_row) info-7);
      tenants = ap db at.tenants ∙ others.1.0 (later 1 refl) ∙ seventh.others.1.0 ∙ sixth.others.1.0 ∙ fifth.others.1.0 ∙ fourth.others.1.0 ∙ third.others.1.0 ∙ names.2.others.1.0 ∙ names.1.empty;
      others = (
        ap db at.maps ∙ others.1.1.1.0 (later 4 refl) ∙ seventh.others.1.1.1.0 ∙ sixth.others.1.1.1.0 ∙ fifth.others.1.1.1.0 ∙ fourth.others.1.1.1.0 ∙ third.empty,
        (
          ap db at.devices ∙ others.1.1.1.1.0 (later 6 refl) ∙ seventh.others.1.1.1.1.0 ∙ sixth.others.1.1.1.1.0 ∙ fifth.others.1.1.1.1.0 ∙ fourth.empty,
          (
            ap db at.pools ∙ others.1.1.1.1.1.1.0 (later 10 refl) ∙ seventh.others.1.1.1.1.1.1.0 ∙ sixth.empty,
            (
              ap db at.receipts ∙ others.1.1.1.1.1.0 (later 8 refl) ∙ seventh.others.1.1.1.1.1.0 ∙ sixth.others.1.1.1.1.1.0 ∙ fifth.empty,
              (
                ap db at.exceptions ∙ others.1.1.1.1.1.1.1.0 (later 13 refl) ∙ seventh.empty,
                tt,
              ),
            ),
          ),
        ),
      );
      sound = last.sound;
    }
