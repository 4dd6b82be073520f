-- The states that a write leaves on a disk that it reached, or didn't.
use Rattle.std.proofs.Common.{◌≡◌, ◌≢◌, ◌⊎◌, inl, inr, ◌↔◌, ◌∙◌, ℕ, List, Bool, true, false, Option, Result, Ok, Err, OnOk, OnErr, bytes_eq, refl, ap, arith, sym}
use Rattle.std.proofs.lemmas.Slice.Eq.{bytes_eq-Decides}
use Rattle.tenant_core.specs.States.{Damaged, Found, HasState, LeavesAsItWasOr, Shows}
use Rattle.tenant_core.specs.tenant_messages.specs.declared.StoreFault.{StoreFault}
use Rattle.tenant_core.specs.tenant_state.specs.State.{TenantState}

-- the disk holds the state s of the name t
abbrev pub Holds : (List ℕ → Option TenantState) → List ℕ → Option TenantState → Type 0
Holds disk t s = disk t ≡ s

shows_before : (was now : List ℕ → Option TenantState) (t : List ℕ) (found : Found) → ((u : Option TenantState) → was t ≡ u ↔ now t ≡ u) → Shows (Holds now) t found → Shows (Holds was) t found
shows_before was now t Damaged same bad = λ s has. bad s ((same s).0 has)
shows_before was now t (HasState s) same has = (same s).1 has

shows_now : (now : List ℕ → Option TenantState) (t : List ℕ) (s : Option TenantState) (found : Found) → now t ≡ s → Shows (Holds now) t found → found ≡ HasState s
shows_now now t s Damaged has bad = absurd (bad s has)
shows_now now t s (HasState u) has is = ap HasState (sym is ∙ has)

-- the disk now holds what it held, or the name as the write leaves it
pub left_by : (result : Result Unit StoreFault) (was now : List ℕ → Option TenantState) (name : List ℕ) (s : Option TenantState) → OnOk result (now name ≡ s)
    → ((t : List ℕ) (u : Option TenantState) → t ≢ name → (was t ≡ u ↔ now t ≡ u)) → OnErr result ((t : List ℕ) → now t ≡ was t)
    → LeavesAsItWasOr name s (Holds was) (Shows (Holds now))
left_by (Err fault) was now name s made others kept = λ t found shown. inl (shows_before was now t found (λ u. (λ has. kept t ∙ has, λ has. sym (kept t) ∙ has)) shown)
left_by (Ok done) was now name s made others kept = λ t found shown. at t found shown (bytes_eq t name) refl
  where
    at : (t : List ℕ) (found : Found) → Shows (Holds now) t found → (b : Bool) → bytes_eq t name ≡ b → Shows (Holds was) t found ⊎ ((t ≡ name) × (found ≡ HasState s))
    at t found shown true e =
        let same : t ≡ name = grind (arith, bytes_eq-Decides t name, e) in inr (same, shows_now now t s found (ap now same ∙ made) shown)
    at t found shown false e =
        let apart : t ≢ name = λ same. let both : true ≡ false = sym (grind (arith, bytes_eq-Decides t name, same)) ∙ e in cc in
        inl (shows_before was now t found (λ u. others t u apart) shown)
