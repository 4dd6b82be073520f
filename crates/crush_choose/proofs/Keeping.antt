-- Choices that stay under a second view of the same tries: what fails in the first fails in the
-- second, and what the first chooses stays.
use Rattle.std.proofs.Common.{◌≡◌, ℕ, zero, suc, Bool, true, false, if◌then◌else◌, Option, Some, None, option_map, refl}
use Rattle.std.specs.Bool.{then_some}
use Rattle.crush_choose.specs.Least.{least, or_else}

-- where the first chooses nothing, nor does the second; a choice of the first of which P holds is
-- that of the second
pub record Keeps {A : Type 0} (P : A → Type 0) (first second : Option A) : Type 0 where
  pub silent : first ≡ None → second ≡ None
  pub chosen : (a : A) → first ≡ Some a → P a → second ≡ Some a

pub keeps_itself : {A : Type 0} (P : A → Type 0) (o : Option A) → Keeps P o o
keeps_itself P o = record { silent = λ e. e; chosen = λ a e holds. e }

-- a test that may only turn from true to false, and stays true where P holds
pub keeps_test : {A : Type 0} (P : A → Type 0) (first second : Bool) (a : A) → (first ≡ false → second ≡ false) → (P a → first ≡ true → second ≡ true)
    → Keeps P (then_some first a) (then_some second a)
keeps_test P true second a falls stays = record {
  silent = λ e. absurd cc;
  chosen = λ other e holds. let same : a ≡ other = cc in rw (stays (rw same holds) refl) e;
}
keeps_test P false second a falls stays = record { silent = λ e. rw (falls refl) refl; chosen = λ other e holds. absurd cc }

pub keeps_branch : {A : Type 0} (P : A → Type 0) (b : Bool) (o first second : Option A) → Keeps P first second
    → Keeps P (if b then o else first) (if b then o else second)
keeps_branch P true o first second keeps = keeps_itself P o
keeps_branch P false o first second keeps = keeps

pub keeps_map : {A B : Type 0} (P : B → Type 0) (f : A → B) (first second : Option A) → Keeps (λ a. P (f a)) first second
    → Keeps P (option_map f first) (option_map f second)
keeps_map P f None second keeps = record { silent = λ e. rw (keeps.silent refl) refl; chosen = λ b e holds. absurd cc }
keeps_map P f (Some a) second keeps = record {
  silent = λ e. absurd cc;
  chosen = λ b e holds. let same : f a ≡ b = cc in let stays : P (f a) = rw same holds in rw (keeps.chosen a refl stays) e;
}

keeps_or_else : {A : Type 0} (P : A → Type 0) (first second later other : Option A) → Keeps P first second → Keeps P later other
    → Keeps P (or_else first later) (or_else second other)
keeps_or_else P None second later other before now = rw (before.silent refl) now
keeps_or_else P (Some a) second later other before now = record {
  silent = λ e. absurd cc;
  chosen = λ b e holds. let same : a ≡ b = cc in rw (before.chosen a refl (rw same holds)) e;
}

-- the least try
pub keeps_least : {A : Type 0} (P : A → Type 0) (first second : ℕ → Option A) (n : ℕ) → ((i : ℕ) → Keeps P (first i) (second i))
    → Keeps P (least first n) (least second n)
keeps_least P first second zero each = keeps_itself P None
keeps_least P first second (suc n) each = keeps_or_else P _ _ _ _ (keeps_least P first second n each) (each n)

-- where P holds of what is chosen, both are the same
pub keeps_same : {A : Type 0} (P : A → Type 0) (first second : Option A) → Keeps P first second → ((a : A) → first ≡ Some a → P a) → second ≡ first
keeps_same P None second keeps holds = keeps.silent refl
keeps_same P (Some a) second keeps holds = keeps.chosen a refl (holds a refl)
