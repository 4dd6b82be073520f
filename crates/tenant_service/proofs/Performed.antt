-- A request that is decided and carried out, for a store's relations.
use Rattle.std.proofs.Common.{◌≡◌, ◌≢◌, ◌⊎◌, inl, inr, ◌↔◌, ◌∙◌, ℕ, List, Option, Some, None, is_some, option_map, Result, Ok, Err, IfOk, OnErr, refl, ap, sym, subst}
use Rattle.tenant_core.specs.Effects.{after_effect}
use Rattle.tenant_core.specs.Private.Performing.{Decides, LeavesRequest, Performs}
use Rattle.tenant_core.specs.Request.{Request}
use Rattle.tenant_core.specs.States.{Damaged, Found, HasState, IsDamaged, LeavesAsItWas, LeavesAsItWasOr, Outcomes, Same, Shows, States}
use Rattle.tenant_core.specs.Step.{decision}
use Rattle.tenant_core.specs.declared.decision.Decision.{Decision}
use Rattle.tenant_core.specs.tenant_messages.specs.declared.StoreFault.{StoreFault}
use Rattle.tenant_core.specs.tenant_messages.specs.Reply.{reply}
use Rattle.tenant_core.specs.tenant_messages.specs.declared.reply.Reply.{Reply}
use Rattle.tenant_core.specs.tenant_state.specs.State.{TenantState}

-- a fact that holds without a premise holds of an error
pub of_any : {A E : Type 0} (result : Result A E) (P : Type 0) → P → OnErr result P
of_any (Ok a) P h = tt
of_any (Err e) P h = h

-- a store found a tenant exactly where there is a state
pub is_there : {A B C : Type 0} (f : A → C) (h : B → C) (found : Option B) (o : Option A) → option_map h found ≡ option_map f o → is_some found ≡ is_some o
is_there f h (Some b) (Some a) same = refl
is_there f h (Some b) None same = cc
is_there f h None (Some a) same = cc
is_there f h None None same = refl

-- a fault of a damaged tenant left the data as it was
pub kept_damaged : (r : Request) (old new : States) (result : Result Reply StoreFault) (Kept : Type 0) → IfOk result (Performs r old new) → OnErr result Kept → IsDamaged old r.tenant → Kept
kept_damaged r old new (Ok replied) Kept by kept bad = absurd (bad by.state by.found)
kept_damaged r old new (Err fault) Kept by kept bad = kept

-- ---- relations that are the same

pub shows_before : (old mid : States) (t : List ℕ) (found : Found) → Same old mid → Shows mid t found → Shows old t found
shows_before old mid t Damaged same bad = λ s has. bad s ((same t s).0 has)
shows_before old mid t (HasState s) same has = (same t s).1 has

pub leaves_before : (old mid : States) (left : Outcomes) → Same old mid → LeavesAsItWas mid left → LeavesAsItWas old left
leaves_before old mid left same leaves = λ t found may. shows_before old mid t found same (leaves t found may)

-- ---- a request that was carried out

pub performed : (r : Request) (old mid new : States) (d : Decision) → Decides r old d → Same old mid
    → ((s : Option TenantState) → mid r.tenant s → d.effect ≡ (decision r s).effect → new r.tenant (after_effect d.effect s))
    → ((t : List ℕ) (s : Option TenantState) → t ≢ r.tenant → (mid t s ↔ new t s)) → Performs r old new d.reply
performed r old mid new d by same left others = record {
  state = by.state;
  found = by.found;
  reply = by.reply;
  left = subst (λ e. new r.tenant (after_effect e by.state)) by.effect (left by.state ((same r.tenant by.state).0 by.found) by.effect);
  others = λ t s apart.
      let both = same t s in
      let kept = others t s apart in
      (λ h. kept.0 (both.0 h), λ h. both.1 (kept.1 h));
}

-- a crash while it is decided, or carried out
pub leaves_undecided : (r : Request) (old : States) (left : Outcomes) → LeavesAsItWas old left → LeavesRequest r old left
leaves_undecided r old left leaves = λ t found may. inl (leaves t found may)

pub leaves_decided : (r : Request) (old mid : States) (left : Outcomes) (d : Decision) → (by : Decides r old d) → Same old mid
    → LeavesAsItWasOr r.tenant (after_effect d.effect by.state) mid left → LeavesRequest r old left
leaves_decided r old mid left d by same leaves = λ t found may. at t found (leaves t found may)
  where
    at : (t : List ℕ) (found : Found) → Shows mid t found ⊎ ((t ≡ r.tenant) × (found ≡ HasState (after_effect d.effect by.state)))
        → Shows old t found ⊎ ((t ≡ r.tenant) × (s : Option TenantState) × old t s × (found ≡ HasState (after_effect (decision r s).effect s)))
    at t found (inl shows) = inl (shows_before old mid t found same shows)
    at t found (inr changed) = inr (changed.0, by.state, subst (λ u. old u by.state) (sym changed.0) by.found, changed.1 ∙ ap (λ e. HasState (after_effect e by.state)) by.effect)
