-- What an opening finds, makes or replaces stands for the states that the database had.
use Rattle.std.proofs.Common.{◌≡◌, ◌⊎◌, inl, inr, refl, sym, subst}
use Rattle.sqlite.specs.Effect.{Database}
use Rattle.table_schema.specs.sqlite_trees.specs.Tree.{Trees}
use Rattle.table_schema.specs.Layout.{no_schema, first_schema, IsStoreSchema}
use Rattle.tenant_core.specs.States.{Same}
use Rattle.tenant_tables.proofs.Migrated.{found_states, set_up_states}
use Rattle.tenant_tables.specs.Rows.{StandsFor, StatesIn}
use Rattle.tenant_tables.specs.Opened.{HasVersion, IsBare, IsKnown, IsMigrated, SetsUp}
use Rattle.tenant_store.specs.Replaced.{Replaces}

pub opened : (old now : Database) → (old.schema ≡ no_schema) ⊎ IsKnown old.schema → (old.schema ≡ no_schema → IsBare now) → (IsStoreSchema old.schema → (now.trees ≡ old.trees) × HasVersion 2 old.trees)
    → (old.schema ≡ first_schema → IsMigrated old now) → Same (StatesIn old) (StandsFor now.trees)
opened old now known made adopted migrated = elim known [
  | inl none ↦ set_up_states old now.trees (inl (none, (now, made none, refl)))
  | inr (inl first) ↦ set_up_states old now.trees (inr (first, (now, migrated first, refl)))
  | inr (inr own) ↦ subst (λ (db : Trees). Same (StatesIn old) (StandsFor db)) (sym (adopted own).0) (found_states old own)
]

pub replaced : (old : Database) (trees : Trees) → SetsUp old trees → Replaces old trees
replaced old trees (inl (none, (db, bare, is))) =
    record { first = inl none; version = subst (HasVersion 2) (sym is) bare.version; same = set_up_states old trees (inl (none, (db, bare, is))) }
replaced old trees (inr (first, (db, it, is))) =
    record { first = inr (first, it.first); version = subst (HasVersion 2) (sym is) it.rows.version; same = set_up_states old trees (inr (first, (db, it, is))) }
