-- A fault that a store answers is that of its tables; and numbers in machine words.
use Rattle.std.proofs.Common.{◌≡◌, ◌↔◌, ℤ, Bool, true, false, Result, Ok, Err, OnOk, OnErr, refl, ap, subst, to_z, of_z}
use Rattle.std.proofs.lemmas.Int.{to_z-of_z}
use mir.Syntax.{w64}
use mir.Val.{SFits}
use Rattle.tenant_core.specs.tenant_messages.specs.declared.StoreFault.{StoreFault}
use Rattle.tenant_core.specs.tenant_messages.specs.declared.StoreFault.TheVariants.{Damaged, Failed}

-- a fault that is passed on is that of the call below
pub same_fault : {A B : Type 0} (r : Result A StoreFault) (x f g : StoreFault) → r ≡ Err x → x ≡ f → r ≡ Err g → ◌≡◌ {A = Result B StoreFault} (Err f) (Err g)
same_fault r x f g is same answer =
    let both : f ≡ g = cc in ap Err both

-- what follows from either end of a call
pub either_end : {A P Q X : Type 0} (r : Result A StoreFault) → OnOk r P → OnErr r Q → (P → X) → (Q → X) → X
either_end (Ok v) p q made kept = made p
either_end (Err e) p q made kept = kept q

-- tables that answered have not failed for good
pub live_at_ok : {A : Type 0} (b : Bool) (x : A) → (b ≡ true ↔ ◌≡◌ {A = Result A StoreFault} (Ok x) (Err Failed)) → b ≡ false
live_at_ok true x h = let never = h.0 refl in absurd cc
live_at_ok false x h = refl

-- a number that went through a machine word is the number
pub at_word : (P : ℤ → Type 0) (n : ℤ) → SFits w64 n → P (to_z w64 (of_z w64 n)) → P n
at_word P n fits h = subst P (to_z-of_z w64 n fits) h
