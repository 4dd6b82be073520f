-- A change of a name with a load after it, for the relations of a store.
use Rattle.std.proofs.Common.{◌≡◌, ◌≢◌, ◌⊎◌, inl, inr, ◌↔◌, ◌∙◌, ℕ, List, Bool, true, false, Option, refl, ap, sym, subst, bytes_eq}
use Rattle.std.proofs.lemmas.Slice.Eq.{bytes_eq-Decides}
use Rattle.tenant_state.specs.State.{TenantState}
use Rattle.tenant_core.specs.States.{Damaged, Found, HasState, LeavesAsItWas, LeavesAsItWasOr, Outcomes, Shows, States}

-- where the load fails for good, an opening finds the change that was made, and else each name as
-- it was
pub left_or_made : (old mid : States) (left : Outcomes) (name : List ℕ) (made : Option TenantState) → mid name made → ((x y : Option TenantState) → mid name x → mid name y → x ≡ y)
    → ((t : List ℕ) (x : Option TenantState) → t ≢ name → (old t x ↔ mid t x)) → LeavesAsItWas mid left → LeavesAsItWasOr name made old left
left_or_made old mid left name made has one others leaves t found there = at (bytes_eq t name) refl found (leaves t found there)
  where
    same : bytes_eq t name ≡ true → t ≡ name
    same is = (bytes_eq-Decides t name).0 is

    apart : bytes_eq t name ≡ false → t ≢ name
    apart differs = λ is. let never : true ≡ false = sym ((bytes_eq-Decides t name).1 is) ∙ differs in absurd cc

    at : (b : Bool) → bytes_eq t name ≡ b → (found : Found) → Shows mid t found → Shows old t found ⊎ ((t ≡ name) × (found ≡ HasState made))
    at true is Damaged bad = absurd (bad made (subst (λ u. mid u made) (sym (same is)) has))
    at true is (HasState x) now = inr (same is, ap HasState (one x made (subst (λ u. mid u x) (same is) now) has))
    at false is Damaged bad = inl (λ s was. bad s ((others t s (apart is)).0 was))
    at false is (HasState x) now = inl ((others t x (apart is)).1 now)
