-- A statement with no token: it is understood under each schema, and fails only as the store does.
use Rattle.std.proofs.Common.{◌≡◌, ◌∙◌, inl, inr, [], Ok, Err, Result, IfErr, IsErrAnd, length, sym, subst, ap, refl, arith}
use Rattle.sqlite_value.specs.Order.{Row}
use Rattle.sqlite_trees.specs.declared.error.StoreError.{StoreError}
use Rattle.sqlite_trees.specs.declared.error.StoreError.TheVariants.{OutOfMemory, Io, Corrupt, Full, Broken, Unstorable}
use Rattle.sqlite_schema.specs.declared.schema.Schema.{Schema}
use Rattle.sqlite_resolve.specs.declared.compiled.Compiled.{Compiled}
use Rattle.sqlite_resolve.specs.declared.error.CompileError.{CompileError}
use Rattle.sqlite_tied.specs.Compute.{everything}
use Rattle.sqlite.specs.Listing.{understood}
use Rattle.sqlite.specs.State.{State, IsNotRun, IsRolledBack, Fails, HasCause, store_error}
use Rattle.sqlite.specs.declared.error.Error.{Error}
use Rattle.table_schema.specs.Ready.{Keeps, Rests}
use Rattle.table_schema.specs.Refused.{IsLost, IsMemory}
use Rattle.table_schema.specs.declared.refuse.Sight.{Sight}
use Rattle.table_schema.specs.declared.refuse.Sight.TheVariants.{Unseen, Lost}

-- it has no parameter, and doesn't read the time
AsksNothing : Result Compiled CompileError → Type 0
AsksNothing (Ok c) = (c.names ≡ []) × (c.formats ≡ [])
AsksNothing (Err e) = ⊥

asks_nothing : (schema : Schema) → AsksNothing (understood schema [])
unfolding understood everything AsksNothing
asks_nothing schema = (refl, refl)

pub only_fails : (old new : State) (e : Error) → ((params : Row) → IsNotRun old new [] params e) → Fails old new ⊥ e
unfolding IsNotRun AsksNothing
only_fails old new e h = go (h []) (asks_nothing old.now.schema)
  where
    go : IsNotRun old new [] [] e → AsksNothing (understood old.now.schema []) → Fails old new ⊥ e
    go (inl (inl bad, same)) none = absurd (subst AsksNothing bad.1 none)
    go (inl (inr (c, is, inl long), same)) none = absurd (long.0 (omega arith))
    go (inl (inr (c, is, inr (inl few)), same)) none = let it = subst AsksNothing is none in absurd (few.0 (sym (ap length it.0)))
    go (inl (inr (c, is, inr (inr timed)), same)) none = let it = subst AsksNothing is none in absurd (timed.0 it.1)
    go (inr failed) none = failed

-- a failure for want of anything but memory has lost the connection
pub lost : (old new : State) (e : Error) → Fails old new ⊥ e → ¬ IsMemory e → IsLost old new
lost old new e failed other = go failed.0 failed.1 failed.2
  where
    go : (cause : StoreError) → e ≡ store_error cause → HasCause old new ⊥ cause → IsLost old new
    go OutOfMemory is h = absurd (other is)
    go Io is h = inr h
    go Corrupt is h = inr h
    go Full is h = inr h
    go Broken is h = inl h
    go Unstorable is h = absurd h

rolled : (old new : State) → IsRolledBack old new → Keeps old new
rolled old new r = record { was_open = r.was_open; now = λ live. (r.undone live).0; committed = λ live. (r.undone live).1 }

pub rests_failed : (old new : State) (e : Error) → Fails old new ⊥ e → Rests old new
rests_failed old new e failed = inr (rolled old new failed.3)

-- what holds of an error holds of the one that `?` passes on
pub passed : {X : Type 0} (P : Error → Type 0) (r : Result X Error) (e : Error) → IsErrAnd r (λ x. x ≡ e) → P e → IfErr r P
passed P (Ok x) e is h = tt
passed P (Err x) e is h = subst P (sym is) h

-- a look that missed the connection, not for want of memory, has lost it
pub missed_lost : (M L : Type 0) (found : Sight) → (M → found ≡ Unseen) → (¬ M → L) → found ≡ Lost → L
missed_lost M L found unseen lost is = lost (λ m. absurd (let no = sym (unseen m) ∙ is in cc))
