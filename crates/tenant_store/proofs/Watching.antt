-- What an opening may find where a change was made, and the files aren't where they were.
use Rattle.std.proofs.Common.{◌≡◌, ◌≢◌, ◌⊎◌, inl, inr, ◌↔◌, ◌∙◌, ℕ, List, Bool, true, false, Option, Result, Ok, Err, OnOk, is_ok, refl, ap, sym, subst, bytes_eq}
use Rattle.std.proofs.lemmas.Slice.Eq.{bytes_eq-Decides}
use Rattle.tenant_core.specs.tenant_state.specs.State.{TenantState}
use Rattle.tenant_core.specs.States.{Damaged, Found, HasState, LeavesAsItWas, LeavesAsItWasOr, Outcomes, Shows, States}
use Rattle.tenant_core.specs.StoreReply.{is_failed}
use Rattle.tenant_core.specs.tenant_messages.specs.declared.StoreFault.{StoreFault}

-- an opening finds the change, or each name as it was
left_after : (old new : States) (left : Outcomes) (name : List ℕ) (made : Option TenantState) → new name made → ((x y : Option TenantState) → new name x → new name y → x ≡ y)
    → ((t : List ℕ) (x : Option TenantState) → t ≢ name → (old t x ↔ new t x)) → LeavesAsItWas new left → LeavesAsItWasOr name made old left
left_after old new left name made has one others leaves t found there = at (bytes_eq t name) refl found (leaves t found there)
  where
    same : bytes_eq t name ≡ true → t ≡ name
    same is = (bytes_eq-Decides t name).0 is

    apart : bytes_eq t name ≡ false → t ≢ name
    apart differs = λ is. let never : true ≡ false = sym ((bytes_eq-Decides t name).1 is) ∙ differs in absurd cc

    at : (b : Bool) → bytes_eq t name ≡ b → (found : Found) → Shows new t found → Shows old t found ⊎ ((t ≡ name) × (found ≡ HasState made))
    at true is Damaged bad = absurd (bad made (subst (λ u. new u made) (sym (same is)) has))
    at true is (HasState x) now = inr (same is, ap HasState (one x made (subst (λ u. new u x) (same is) now) has))
    at false is Damaged bad = inl (λ s was. bad s ((others t s (apart is)).0 was))
    at false is (HasState x) now = inl ((others t x (apart is)).1 now)

-- the change was made, and nothing failed for good
pub left_missed : (old new : States) (left : Outcomes) (name : List ℕ) (made : Option TenantState) (r : Result (Unit {0}) StoreFault) (latched : Bool) → is_ok r ≡ true → latched ≡ is_failed r
    → OnOk r (new name made) → (latched ≡ false → (x y : Option TenantState) → new name x → new name y → x ≡ y)
    → (latched ≡ false → (t : List ℕ) (x : Option TenantState) → t ≢ name → (old t x ↔ new t x)) → (latched ≡ false → LeavesAsItWas new left) → LeavesAsItWasOr name made old left
left_missed old new left name made (Ok done) latched is works has one others leaves = left_after old new left name made has (one works) (others works) (leaves works)
left_missed old new left name made (Err fault) latched is works has one others leaves = absurd cc
