-- A query of one table, which each database that has the tables answers.
use Rattle.std.proofs.Common.{◌≡◌, inl, inr, ℕ, List, [], ◌∷◌, true, false, Option, Some, None, Result, Ok, Err, sym, ap, subst, ◌∙◌, true≢false}
use Rattle.sqlite_value.specs.declared.value.Value.TheVariants.{Null}
use Rattle.sqlite_value.specs.Order.{Row}
use Rattle.sqlite_trees.specs.Tree.{Trees}
use Rattle.sqlite_schema.specs.declared.schema.Schema.{Schema}
use Rattle.sqlite_sql.specs.Group.{Grouping, Overflows}
use Rattle.sqlite_sql.specs.Query.{FoldOverflows}
use Rattle.sqlite_sql.specs.Term.{Env}
use Rattle.sqlite.specs.Command.TheVariants.{Select}
use Rattle.sqlite_typing.specs.Types.{accepts_program}
use Rattle.sqlite_resolve.specs.declared.compiled.Compiled.{Compiled}
use Rattle.sqlite_resolve.specs.declared.error.CompileError.{CompileError}
use Rattle.sqlite.specs.Effect.{Database, Reads, RefusesToRead}
use Rattle.sqlite.specs.Listing.{understood, reads_listing}
use Rattle.sqlite.specs.Program.{overlay}
use Rattle.sqlite.specs.Query.{Query, IsAnswer, inner, end}
use Rattle.sqlite.specs.State.{State, Shown}
use Rattle.sqlite.specs.declared.error.Error.{Error}
use Rattle.sqlite.proofs.Callers.{IsPlain, command_of, reads_as}
use Rattle.table_schema.specs.Layout.{store_schema}
use Rattle.table_schema.specs.declared.schema.Layout.{Layout}
use Rattle.table_schema.specs.Asked.{Answered, IsAnswered, Shows}
use Rattle.table_schema.specs.Ready.{IsReady}

-- a query of one table counts up nothing
uncounted : (tree : ℕ) (db : Trees) (params : Row) → FoldOverflows db (inner tree end) (params ∷ []) → ⊥
uncounted tree db params (k, r, low, at, none) = none

ungrouped : (group : Option Grouping) (all : List Env) → group ≡ None → Overflows group all → ⊥
ungrouped None all is over = over
ungrouped (Some g) all is over = absurd (let no = is in cc)

-- a query of one table, whose values have types that are accepted, is refused by no database
pub never_refused : (tree : ℕ) (q : Query) (schema : Schema) (params : Row) → q.from ≡ inner tree end → q.group ≡ None → accepts_program schema [] q params ≡ true
    → (db : Database) (e : Error) → db.schema ≡ schema → ¬ RefusesToRead None (Select (record { lets = []; body = q }) []) db params e
never_refused tree q schema params from group accepted db e has = λ h. go h
  where
    go : RefusesToRead None (Select (record { lets = []; body = q }) []) db params e → ⊥
    go (inl (is, untyped)) = absurd (true≢false (sym accepted ∙ subst (λ s. accepts_program s [] q params ≡ false) has untyped))
    go (inr (inl (is, inl over))) = ungrouped q.group _ group over
    go (inr (inl (is, inr over))) = uncounted tree (overlay db.trees []) params (subst (λ f. FoldOverflows (overlay db.trees []) f (params ∷ [])) from over)
    go (inr (inr (is, some))) = absurd (let no = some in cc)

-- In the layout the text is the query, with these names of columns, and each database answers it.
pub record Means (layout : Layout) (sql : List ℕ) (params : Row) (q : Query) (names : List (List ℕ)) : Type 0 where
  pub command : command_of (understood (store_schema layout) sql) ≡ Select (record { lets = []; body = q }) names
  pub listing : reads_listing (store_schema layout) sql ≡ false
  pub plain : IsPlain (understood (store_schema layout) sql)
  pub answered : Answered (store_schema layout) sql params (understood (store_schema layout) sql)

module _ (sql : List ℕ) (params : Row) (q : Layout → Query) (names : List (List ℕ)) (means : (layout : Layout) → Means layout sql params (q layout) names) where
  pub is_answered : IsAnswered sql params
  is_answered = record { plain = λ layout. (means layout).plain; safe = λ layout. record { unlisted = (means layout).listing; answered = (means layout).answered } }

  pub answer_of : (old new : State) (rows : List Row) (ready : IsReady old) → Shown sql params old new rows → IsAnswer (q ready.schema.0) (overlay old.now.trees []) params rows
  answer_of old new rows ready h =
      let layout = ready.schema.0 in
      let it = means layout in
      (reads_as sql params old new (store_schema layout) ready.schema.1 _ it.command it.plain it.listing rows h).answer Null

  -- the same, of what a schema's text answers
  pub answer_in : (layout : Layout) (db : Database) (rows : List Row) → Shows (understood (store_schema layout) sql) db params rows → IsAnswer (q layout) (overlay db.trees []) params rows
  answer_in layout db rows h = (subst (λ k. Reads k db params rows) (means layout).command (read _ h)).answer Null
    where
      read : (r : Result Compiled CompileError) → Shows r db params rows → Reads (command_of r) db params rows
      read (Ok c) h = h
      read (Err e) h = absurd h

-- what a ready connection shows is what the text answers
pub shows_of : (sql : List ℕ) (params : Row) (old new : State) (rows : List Row) (ready : IsReady old) → IsAnswered sql params → Shown sql params old new rows → Shows (understood (store_schema ready.schema.0) sql) old.now params rows
unfolding Shown
shows_of sql params old new rows ready it h =
    let layout = ready.schema.0 in
    let known = sym h.1.is ∙ ap (λ s. understood s sql) ready.schema.1 in
    subst (λ r. Shows r old.now params rows) known (reads_as sql params old new (store_schema layout) ready.schema.1 h.0.command (ap command_of (sym known)) (it.plain layout) (it.safe layout).unlisted rows h)
