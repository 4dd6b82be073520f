-- What plain queries answer, and what they leave.
use Rattle.std.proofs.Common.{◌≡◌, inl, inr, ℕ, List, sym, subst}
use Rattle.sqlite_value.specs.Order.{Row}
use Rattle.sqlite_schema.specs.declared.schema.Schema.{Schema}
use Rattle.sqlite.specs.Listing.{understood}
use Rattle.sqlite.specs.State.{State, HasCleanDisk, Shown, IsUnchanged, IsRolledBack, IsNotRun, FailsToQuery, Survives, CommitsShowing}
use Rattle.sqlite.specs.declared.error.Error.{Error}
use Rattle.sqlite.proofs.StateLemmas.{survives_weaker}
use Rattle.sqlite.proofs.Callers.{IsPlain, never_commits}
use Rattle.table_schema.specs.Ready.{Keeps, Rests}

-- the text is plain, whatever the schema is called
pub still_plain : (sql : List ℕ) (old : State) (schema : Schema) → old.now.schema ≡ schema → IsPlain (understood schema sql) → IsPlain (understood old.now.schema sql)
still_plain sql old schema has plain = subst (λ s. IsPlain (understood s sql)) (sym has) plain

-- a plain query leaves all as it is
pub shown_unchanged : (sql : List ℕ) (params : Row) (old new : State) (rows : List Row) → IsPlain (understood old.now.schema sql) → Shown sql params old new rows → IsUnchanged old new
unfolding Shown
shown_unchanged sql params old new rows plain h =
    let none = (subst IsPlain h.1.is plain).0 in
    (rw none at h.2).3

pub commits_nothing : (sql : List ℕ) (params : Row) (old new : State) → (HasCleanDisk new → IsPlain (understood old.now.schema sql)) → Survives old new (CommitsShowing sql params old) → Survives old new (λ _. ⊥)
commits_nothing sql params old new plain = survives_weaker old new _ _ (λ clean db. never_commits sql params old db (plain clean))

-- a query that fails leaves all as it is, or the last commit
pub fails_rests : (sql : List ℕ) (params : Row) (old new : State) (e : Error) → IsPlain (understood old.now.schema sql) → FailsToQuery sql params old new e → Rests old new
unfolding FailsToQuery IsNotRun
fails_rests sql params old new e plain (inl (inl h)) = inl h.1
fails_rests sql params old new e plain (inl (inr h)) = inr (rolled h.3)
  where
    rolled : IsRolledBack old new → Keeps old new
    rolled r = record { was_open = r.was_open; now = λ live. (r.undone live).0; committed = λ live. (r.undone live).1 }
fails_rests sql params old new e plain (inr h) =
    let none = (subst IsPlain h.1.is plain).0 in
    inl (rw none at h.2).3
