-- A query that no database of the tables refuses fails only for want of memory, or by the disk.
use Rattle.std.proofs.Common.{◌≡◌, ◌≢◌, ◌⊎◌, ◌≤◌, inl, inr, ℕ, List, None, IsTrue, Ok, Err, Result, sym, subst, ap, refl, ◌∙◌, append-nil, arith}
use Rattle.sqlite_disk.specs.Disk.{MoreFaults}
use Rattle.sqlite_value.specs.Order.{Row}
use Rattle.sqlite_trees.specs.Tree.{Trees}
use Rattle.sqlite_trees.specs.declared.error.StoreError.{StoreError}
use Rattle.sqlite_trees.specs.declared.error.StoreError.TheVariants.{OutOfMemory, Io, Corrupt, Full, Broken, Unstorable}
use Rattle.sqlite_schema.specs.declared.schema.Schema.{Schema}
use Rattle.sqlite_resolve.specs.declared.compiled.Compiled.{Compiled}
use Rattle.sqlite_resolve.specs.declared.error.CompileError.{CompileError}
use Rattle.sqlite.specs.Effect.{Database}
use Rattle.sqlite.specs.Listing.{understood, reads_listing, IsSourceOf}
use Rattle.sqlite.specs.State.{State, HasCleanDisk, Survives, FailsToQuery, IsNotRun, Fails, HasCause, store_error}
use Rattle.sqlite.specs.declared.error.Error.{Error}
use Rattle.tenant_messages.specs.declared.StoreFault.{StoreFault}
use Rattle.tenant_messages.specs.declared.StoreFault.TheVariants as fault
use Rattle.table_schema.specs.Refused.{IsLost, IsMemory, Reports}
use Rattle.table_schema.specs.declared.refuse.Sight.{Sight}
use Rattle.table_schema.specs.declared.refuse.Sight.TheVariants.{Open, Unseen, Lost}
use Rattle.table_schema.specs.declared.fault.ReadFault.{ReadFault}
use Rattle.table_schema.specs.declared.fault.ReadFault.TheVariants as read
use Rattle.table_schema.specs.Asked.{Answered, IsSafe}

only_fails : (schema : Schema) (sql : List ℕ) (params : Row) (old new : State) (e : Error) → old.now.schema ≡ schema → old.step_limit ≡ None → IsSafe schema sql params → FailsToQuery sql params old new e → Fails old new ⊥ e
unfolding FailsToQuery IsNotRun
only_fails schema sql params old new e has unlimited safe h = go h
  where
    known : (r : Result Compiled CompileError) → understood old.now.schema sql ≡ r → Answered schema sql params r
    known r is = subst (Answered schema sql params) (sym (ap (λ s. understood s sql) has) ∙ is) safe.answered

    go : FailsToQuery sql params old new e → Fails old new ⊥ e
    go (inl (inl (inl bad, same))) = absurd (known (Err bad.0) bad.1)
    go (inl (inl (inr (c, is, inl long), same))) = absurd (long.0 (known (Ok c) is).0)
    go (inl (inl (inr (c, is, inr (inl few)), same))) = absurd (few.0 (known (Ok c) is).1)
    go (inl (inl (inr (c, is, inr (inr late)), same))) = absurd (late.0 (known (Ok c) is).2)
    go (inl (inr failed)) = failed
    go (inr (c, it, shows)) =
        let its = known (Ok c) it.is in
        let refused = rw (its.3, its.2, append-nil params, unlimited) at shows in
        let db : refused.0 ≡ old.now = subst (λ b. IsSourceOf b old.now refused.0) (ap (λ s. reads_listing s sql) has ∙ safe.unlisted) refused.1 in
        absurd (its.4 refused.0 e (ap (λ (d : Database). d.schema) db ∙ has) refused.2)

-- on a connection that was open
caused : (old new : State) (e : Error) → IsTrue old.is_open → Fails old new ⊥ e → ¬ IsMemory e → MoreFaults old.faults new.faults
caused old new e live failed other = go failed.0 failed.1 failed.2
  where
    go : (cause : StoreError) → e ≡ store_error cause → HasCause old new ⊥ cause → MoreFaults old.faults new.faults
    go OutOfMemory is h = absurd (other is)
    go Io is h = h
    go Corrupt is h = h
    go Full is h = h
    go Broken is h = absurd (let no = sym live ∙ h in cc)
    go Unstorable is h = absurd h

-- A connection that is lost now was so by a fault since it was open.
lost_since : (first mid last : State) (P : Trees → Type 0) → IsTrue first.is_open → HasCleanDisk mid → Survives first mid P → mid.faults ≤ last.faults → IsLost mid last → MoreFaults first.faults last.faults
lost_since first mid last P live clean survives more (inr fault) = omega (arith, fault, survives.counts)
lost_since first mid last P live clean survives more (inl shut) = go (survives.closes clean live)
  where
    go : IsTrue mid.is_open ⊎ MoreFaults first.faults mid.faults → MoreFaults first.faults last.faults
    go (inl still) = absurd (let no = sym still ∙ shut in cc)
    go (inr fault) = omega (arith, fault, more)

-- a read that failed had a fault of the disk
pub read_failed : (schema : Schema) (sql : List ℕ) (params : Row) (old mid new : State) (P : Trees → Type 0) (e : Error) (found : Sight) (why : ReadFault) → old.now.schema ≡ schema → old.step_limit ≡ None → IsTrue old.is_open → IsSafe schema sql params
    → HasCleanDisk mid → FailsToQuery sql params old mid e → Survives old mid P → mid.faults ≤ new.faults → ((fault : StoreFault) → found ≡ Open fault → Reports e fault) → (found ≡ Lost → IsLost mid new)
    → (found ≡ Open fault.NoMemory → why ≡ read.NoMemory) → (found ≡ Unseen → why ≡ read.Unseen) → why ≡ read.Failed → MoreFaults old.faults new.faults
read_failed schema sql params old mid new P e found why has unlimited live safe clean refused survives more reports lost memory unseen failed = go found refl
  where
    fault_is : (f : StoreFault) → found ≡ Open f → ¬ IsMemory e
    fault_is f is = λ lacks. absurd (let no = sym (memory (is ∙ ap Open ((reports f is).memory.1 lacks))) ∙ failed in cc)

    go : (it : Sight) → found ≡ it → MoreFaults old.faults new.faults
    go (Open f) is = omega (arith, caused old mid e live (only_fails schema sql params old mid e has unlimited safe refused) (fault_is f is), more)
    go Unseen is = absurd (let no = sym (unseen is) ∙ failed in cc)
    go Lost is = lost_since old mid new P live clean survives more (lost is)

-- a read that didn't fail, and isn't in doubt, lacked memory
pub only_memory : (why : ReadFault) → why ≢ read.Damaged → why ≢ read.Unseen → why ≢ read.Failed → why ≡ read.NoMemory
only_memory read.NoMemory rows unseen failed = refl
only_memory read.Unseen rows unseen failed = absurd (unseen refl)
only_memory read.Damaged rows unseen failed = absurd (rows refl)
only_memory read.Failed rows unseen failed = absurd (failed refl)
