-- What a change makes of the rows, from what its writes make.
use Rattle.std.proofs.Common.{◌≡◌, Result, OnOk, sym, subst, arith}
use Rattle.std.proofs.lemmas.Result.{on_ok_weaker}
use Rattle.sqlite_trees.specs.Tree.{Trees}
use Rattle.sqlite.specs.Effect.{Database}
use Rattle.sqlite.specs.Held.{Held, state}
use Rattle.sqlite.specs.State.{HasCleanDisk, Survives}
use Rattle.sqlite.specs.Store.{Ghosts}
use Rattle.sqlite.proofs.StateLemmas.{survives_weaker}
use Rattle.table_schema.specs.Ready.{Commits}

module _ {S : Type 0} (g : Ghosts S) (old new : Held S) (Made : Database → Type 0) (P : Trees → Type 0) where
  -- where they were done
  pub done_of : {A E : Type 0} (r : Result A E) → OnOk r ((db : Database) × Made db × Commits (state g old) (state g new) db) → ((db : Database) → Made db → P db.trees) → OnOk r (P (state g new).now.trees)
  done_of r done makes = on_ok_weaker r (λ it. subst (λ (db : Database). P db.trees) (sym it.2.now) (makes it.0 it.1)) done

  -- and after a crash
  pub crash_of : Survives (state g old) (state g new) (λ trees. (db : Database) × Made db × (trees ≡ db.trees))
      → (HasCleanDisk (state g old) → (db : Database) → Made db → P db.trees) → Survives (state g old) (state g new) P
  crash_of crash makes = survives_weaker (state g old) (state g new) _ _ (λ clean trees left.
      let early : HasCleanDisk (state g old) = omega (arith, clean, crash.clean) in
      subst P (sym left.2) (makes early left.0 left.1)) crash
