-- Numbers of versions by name, after a number is put, or taken out.
use Rattle.std.proofs.Common.{◌≡◌, ◌≢◌, ◌⊎◌, inl, inr, ℕ, List, Bool, true, false, if◌then◌else◌, Option, Some, None, is_some, refl, sym, ◌∙◌}
use Rattle.std.specs.Str.{bytes_eq}
use Rattle.std.proofs.lemmas.Slice.Eq.{bytes_eq-Decides}
use Rattle.tenant_store.specs.Judged.{Adds, Counts, Forgets, Updates}

is : (name t : List ℕ) → bytes_eq name t ≡ true → t ≡ name
is name t same = sym ((bytes_eq-Decides name t).0 same)

other : (name t : List ℕ) → bytes_eq name t ≡ false → t ≢ name
other name t differs same = let never : true ≡ false = sym ((bytes_eq-Decides name t).1 (sym same)) ∙ differs in absurd cc

some_is : (m n : ℕ) → Some n ≡ Some m → m ≡ n
some_is m n h = cc

put_at : (name : List ℕ) (n : ℕ) (t : List ℕ) (m : ℕ) (b : Bool) (o : Option ℕ) → bytes_eq name t ≡ b → (if b then Some n else o) ≡ Some m → ((t ≡ name) × (m ≡ n)) ⊎ ((t ≢ name) × (o ≡ Some m))
put_at name n t m true o same h = inl (is name t same, some_is m n h)
put_at name n t m false o differs h = inr (other name t differs, h)

taken_at : (name : List ℕ) (t : List ℕ) (m : ℕ) (b : Bool) (o : Option ℕ) → bytes_eq name t ≡ b → (if b then None else o) ≡ Some m → (t ≢ name) × (o ≡ Some m)
taken_at name t m true o same h = absurd cc
taken_at name t m false o differs h = (other name t differs, h)

pub put : (old new : Counts) (name : List ℕ) (n : ℕ) → ((t : List ℕ) → new t ≡ (if bytes_eq name t then Some n else old t)) → Updates name n old new
put old new name n by t m h = put_at name n t m (bytes_eq name t) (old t) refl (sym (by t) ∙ h)

pub added : (old new : Counts) (name : List ℕ) (n : ℕ) → Updates name n old new → Adds name n old new
added old new name n updates t m h = elim (updates t m h) [ inl it ↦ inl it | inr was ↦ inr was.1 ]

pub taken : (old new : Counts) (name : List ℕ) → ((t : List ℕ) → new t ≡ (if bytes_eq name t then None else old t)) → Forgets name old new
taken old new name by t m h = taken_at name t m (bytes_eq name t) (old t) refl (sym (by t) ∙ h)

-- a name that is there has a number
pub number_of : (o : Option ℕ) → is_some o ≡ true → (n : ℕ) × (o ≡ Some n)
number_of None h = absurd cc
number_of (Some n) h = (n, refl)
