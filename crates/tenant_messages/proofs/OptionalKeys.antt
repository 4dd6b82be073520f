-- A key that may be missing: what is found under it, and that the object's keys are still exactly
-- those named.
use Rattle.std.proofs.Common.{◌≡◌, ℕ, List, [], ◌∷◌, ◌++◌, length, Option, Some, None, option_map, refl, ap, ◌∙◌}
use Rattle.serde_json.specs.Data.{Data}
use Rattle.serde_json.specs.Find.{get}
use Rattle.tenant_messages.proofs.Finding.{Finds, is_there}
use Rattle.tenant_messages.proofs.Objects.{AllFound}
use Rattle.tenant_messages.specs.Forms.{IsOptional, if_any}
use Rattle.tenant_messages.specs.Json.{on_optional, optional, present}

optional-says : {A : Type 0} {f : Data → Option A} {Says : Data → A → Type 0} → Finds f Says → (key : List ℕ) (d : Data) (found : Option Data) (o : Option A)
    → get key d ≡ found → on_optional f found ≡ Some o → IsOptional key Says d o
optional-says finds key d None None is h = is
optional-says finds key d None (Some a) is h = let both : None ≡ Some a = cc in cc
optional-says {A} {f} {Says} finds key d (Some v) o is h = at-value (f v) o refl h
  where
    at-value : (r : Option A) (o : Option A) → f v ≡ r → option_map (λ a. Some a) r ≡ Some o → IsOptional key Says d o
    at-value None o e h = cc
    at-value (Some a) None e h = let both : Some a ≡ None = cc in cc
    at-value (Some a) (Some b) e h = let same : a ≡ b = cc in record { value = v; there = is; says = finds.says v b (e ∙ ap Some same) }

optional-found : {A : Type 0} {f : Data → Option A} {Says : Data → A → Type 0} → Finds f Says → (key : List ℕ) (d : Data) (o : Option A) → IsOptional key Says d o → optional key f d ≡ Some o
optional-found finds key d None is = rw is refl
optional-found finds key d (Some a) is = rw (is.there, finds.found is.value a is.says) refl

pub finds_optional : {A : Type 0} {f : Data → Option A} {Says : Data → A → Type 0} (key : List ℕ) → Finds f Says → Finds (optional key f) (IsOptional key Says)
finds_optional key finds = record {
  says = λ d o h. optional-says finds key d (get key d) o refl h;
  found = λ d o is. optional-found finds key d o is;
}

-- ---- for `finds_object_with`

pub found_if_any : {A : Type 0} (Says : Data → A → Type 0) (key : List ℕ) (d : Data) (o : Option A) → IsOptional key Says d o → AllFound (if_any key o) d
found_if_any Says key d None is = tt
found_if_any Says key d (Some a) is = (is_there key d a is, tt)

pub all_found-append : (keys others : List (List ℕ)) (d : Data) → AllFound keys d → AllFound others d → AllFound (keys ++ others) d
all_found-append [] others d first second = second
all_found-append (key ∷ keys) others d first second = (first.0, all_found-append keys others d first.1 second)

pub present-if_any : {A : Type 0} (Says : Data → A → Type 0) (key : List ℕ) (d : Data) (o : Option A) → IsOptional key Says d o → present key d ≡ length (if_any key o)
present-if_any Says key d None is = rw is refl
present-if_any Says key d (Some a) is = rw is.there refl
