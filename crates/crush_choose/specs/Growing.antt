-- Lists in which each element is computed from those before it.
use Rattle.std.specs.Prelude.{ℕ, zero, suc, List, [], ◌∷◌, ◌++◌}

-- n elements, each a function of the list before it and of its place
abbrev pub grown : {A : Type 0} → (List A → ℕ → A) → ℕ → List A
grown next zero = []
grown next (suc n) = grown next n ++ next (grown next n) n ∷ []
