-- What a stop leaves.
use Rattle.std.proofs.Common.{◌≡◌, ◌≢◌, ◌⊎◌, inl, inr, ℕ, List, Bool, true, false, Option, refl, sym, ap, subst, ◌∙◌}
use Rattle.std.specs.Str.{bytes_eq}
use Rattle.std.proofs.lemmas.Slice.Eq.{bytes_eq-Decides}
use Rattle.sqlite.specs.Held.{Held, state}
use Rattle.sqlite.specs.State.{HasCleanDisk, Survives}
use Rattle.sqlite.specs.Store.{Ghosts}
use Rattle.table_schema.specs.sqlite_trees.specs.Tree.{Trees}
use Rattle.tenant_core.specs.States.{Found, Damaged, HasState as Has, LeavesAsItWas, LeavesAsItWasOr, Shows}
use Rattle.tenant_tables.specs.Changes.{Turns}
use Rattle.tenant_tables.specs.Rows.{StandsFor}
use Rattle.tenant_core.specs.tenant_state.specs.State.{TenantState}
use Rattle.table_schema.specs.Ready.{IsReady}
use Rattle.tenant_store.specs.Laws.{LeavesCommitted, left_alone}
use Rattle.tenant_store.specs.Shown.{HasState, MayLeave, OneState}

module _ (one : OneState) where
  -- what the rows of the name show after a change
  shown : (name : List ℕ) (s : Option TenantState) (db : Trees) (found : Found) → StandsFor db name s → Shows (StandsFor db) name found → found ≡ Has s
  shown name s db Damaged own damaged = absurd (damaged s own)
  shown name s db (Has u) own has = ap Has (one db name u s has own)

  -- what the rows of each name show after a change
  turned : (name : List ℕ) (s : Option TenantState) (old db : Trees) → Turns name s old db → (t : List ℕ) (found : Found) → Shows (StandsFor db) t found → Shows (StandsFor old) t found ⊎ ((t ≡ name) × (found ≡ Has s))
  turned name s old db turns t found shows = go (bytes_eq t name) refl
    where
      other : (found : Found) → t ≢ name → Shows (StandsFor db) t found → Shows (StandsFor old) t found
      other Damaged apart damaged = λ u has. damaged u ((turns.others t u apart).0 has)
      other (Has u) apart has = (turns.others t u apart).1 has

      go : (b : Bool) → bytes_eq t name ≡ b → Shows (StandsFor old) t found ⊎ ((t ≡ name) × (found ≡ Has s))
      go true same =
          let is = (bytes_eq-Decides t name).0 same in
          inr (is, shown name s db found turns.own (subst (λ n. Shows (StandsFor db) n found) is shows))
      go false differs = inl (other found (λ is. let never : true ≡ false = sym ((bytes_eq-Decides t name).1 is) ∙ differs in absurd cc) shows)

module _ {S : Type 0} (g : Ghosts S) where
  -- a call that writes nothing
  pub as_it_was : LeavesCommitted g → (old new : Held S × Bool) → IsReady (state g old.0) → Survives (state g old.0) (state g new.0) (λ _. ⊥) → HasCleanDisk (state g new.0) → LeavesAsItWas (HasState g old) (MayLeave g new)
  as_it_was law old new ready survives clean t found there = elim (survives.crash clean there.0 there.1) [
    | inl was ↦ subst (λ (db : Trees). Shows (StandsFor db) t found) (left_alone g law old ready there.0 was) there.2
    | inr none ↦ absurd none
  ]

  -- a call that turns a name
  pub as_it_was_or : LeavesCommitted g → OneState → (P : Trees → Type 0) (name : List ℕ) (s : Option TenantState) (old new : Held S × Bool) → IsReady (state g old.0) → Survives (state g old.0) (state g new.0) P
      → ((db : Trees) → P db → Turns name s (state g old.0).now.trees db) → HasCleanDisk (state g new.0) → LeavesAsItWasOr name s (HasState g old) (MayLeave g new)
  as_it_was_or law one P name s old new ready survives turns clean t found there = elim (survives.crash clean there.0 there.1) [
    | inl was ↦ inl (subst (λ (db : Trees). Shows (StandsFor db) t found) (left_alone g law old ready there.0 was) there.2)
    | inr made ↦ turned one name s (state g old.0).now.trees there.0 (turns there.0 made) t found there.2
  ]
