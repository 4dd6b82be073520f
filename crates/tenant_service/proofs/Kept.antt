-- The entries of an ordered map; then results, refusals and shared values.
use Rattle.std.proofs.Common.{◌≡◌, ◌∙◌, Bool, true, false, if◌then◌else◌, Option, Some, None, option_map, MatchOption, IsSomeAnd, Result, Ok, Err, OnOk, OnErr, refl, ap}
use Rattle.std.specs.declared.alloc.Global.{Global}
use Rattle.std.specs.declared.rc.Rc.{Rc}
use denote.Bor.{Bor}
use Rattle.tenant_core.specs.tenant_messages.specs.Refusals.{Gives}
use Rattle.tenant_core.specs.tenant_messages.specs.declared.reply.Problem.{Problem}
use Rattle.tenant_core.specs.tenant_messages.specs.declared.reply.Refusal.{Refusal}
use Rattle.tenant_core.specs.tenant_messages.specs.declared.reply.Refusal.TheVariants as refusal

-- the value at a key is exchanged for another
pub changed_at : {A : Type 0} (h : A → A) (b : Bool) (x y : A) (old : Option A) → (b ≡ true → old ≡ Some x) → y ≡ h x
    → (if b then Some y else old) ≡ (if b then option_map h old else old)
changed_at h true x y old at e = rw (at refl) (ap (λ z. Some z) e)
changed_at h false x y old at e = refl

-- the same where the new value is the old one
pub kept_at : {A : Type 0} (b : Bool) (x y : A) (old : Option A) → (b ≡ true → old ≡ Some x) → y ≡ x → (if b then Some y else old) ≡ old
kept_at true x y old at e = rw (at refl) (ap (λ z. Some z) e)
kept_at false x y old at e = refl

-- ---- what holds where a call succeeded, or failed

pub OnOk-map : {T E : Type 0} (r : Result T E) {A B : Type 0} → (A → B) → OnOk r A → OnOk r B
OnOk-map (Ok x) f a = f a
OnOk-map (Err e) f a = tt

pub OnErr-map : {T E : Type 0} (r : Result T E) {A B : Type 0} → (A → B) → OnErr r A → OnErr r B
OnErr-map (Ok x) f a = tt
OnErr-map (Err e) f a = f a

-- ---- refusals

pub problem_given : {A : Type 0} (r : Result A Refusal) (f : Refusal) (p : Problem) (given : Result A Problem) → r ≡ Err f → f ≡ refusal.Problem p → Gives (λ x. x) r given → given ≡ Err p
problem_given (Ok a) f p given is also h = cc
problem_given (Err (refusal.Problem q)) f p given is also h =
    let first : refusal.Problem q ≡ f = cc in
    let whole : refusal.Problem q ≡ refusal.Problem p = first ∙ also in
    let same : q ≡ p = cc in h ∙ ap Err same
problem_given (Err refusal.NoMemory) f p given is also h =
    let first : refusal.NoMemory ≡ f = cc in
    let whole : refusal.NoMemory ≡ refusal.Problem p = first ∙ also in cc

-- ---- a shared value that is borrowed

pub deref_of : {A : Type 0} (shared : Option (Rc A Global)) (borrowed : Option (Bor A)) → MatchOption shared (borrowed ≡ None) (λ r. IsSomeAnd borrowed (λ b. b.now ≡ r.value))
    → option_map (λ b. b.now) borrowed ≡ option_map (λ r. r.value) shared
deref_of None borrowed h = rw h refl
deref_of (Some r) None h = absurd h
deref_of (Some r) (Some b) h = ap Some h
