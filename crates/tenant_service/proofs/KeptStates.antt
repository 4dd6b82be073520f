-- Each value in a store in memory is a state, also after a value is put, or taken out.
use Rattle.std.proofs.Common.{◌≡◌, ◌∙◌, ℕ, List, Bool, true, false, if◌then◌else◌, Option, Some, None, Result, Ok, Err, OnOk, OnErr, sym, subst}
use Rattle.std.specs.Str.{bytes_eq}
use Rattle.tenant_core.specs.tenant_state.specs.State.{TenantState}
use Rattle.tenant_core.specs.tenant_state.specs.Valid.{IsState}

abbrev AreStates : (List ℕ → Option TenantState) → Type 0
AreStates kept = (u : List ℕ) (s : TenantState) → kept u ≡ Some s → IsState s

pub state_at : (b : Bool) (new s : TenantState) (o : Option TenantState) → IsState new → (o ≡ Some s → IsState s) → (if b then Some new else o) ≡ Some s → IsState s
state_at true new s o is old h = let same : new ≡ s = cc in subst IsState same is
state_at false new s o is old h = old h

left_at : (b : Bool) (s : TenantState) (o : Option TenantState) → (o ≡ Some s → IsState s) → (if b then None else o) ≡ Some s → IsState s
left_at true s o old h = cc
left_at false s o old h = old h

pub states_put : {A E : Type 0} (result : Result A E) (old new : List ℕ → Option TenantState) (name : List ℕ) (x : TenantState)
    → OnOk result ((u : List ℕ) → new u ≡ (if bytes_eq name u then Some x else old u)) → OnErr result ((u : List ℕ) → new u ≡ old u) → IsState x
    → AreStates old → AreStates new
states_put (Ok a) old new name x ok err is all = λ u s h. state_at (bytes_eq name u) x s (old u) is (all u s) (sym (ok u) ∙ h)
states_put (Err e) old new name x ok err is all = λ u s h. all u s (sym (err u) ∙ h)

pub states_left : (old new : List ℕ → Option TenantState) (name : List ℕ) → ((u : List ℕ) → new u ≡ (if bytes_eq name u then None else old u))
    → AreStates old → AreStates new
states_left old new name by all = λ u s h. left_at (bytes_eq name u) s (old u) (all u s) (sym (by u) ∙ h)
