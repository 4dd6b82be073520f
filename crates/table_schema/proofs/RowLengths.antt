-- Rows of five columns and of nine.
use Rattle.std.proofs.Common.{◌≡◌, [], ◌∷◌, length, refl, arith}
use Rattle.sqlite_value.specs.Order.{Row, column}

pub nine : (row : Row) → length row ≡ 9
    → row ≡ column row 0 ∷ column row 1 ∷ column row 2 ∷ column row 3 ∷ column row 4 ∷ column row 5 ∷ column row 6 ∷ column row 7 ∷ column row 8 ∷ []
nine (a ∷ b ∷ c ∷ d ∷ e ∷ f ∷ g ∷ h ∷ i ∷ []) len = refl
nine [] len = absurd (let none : 0 ≡ 9 = len in omega (arith, none))
nine (a ∷ []) len = absurd (let none : 1 ≡ 9 = len in omega (arith, none))
nine (a ∷ b ∷ []) len = absurd (let none : 2 ≡ 9 = len in omega (arith, none))
nine (a ∷ b ∷ c ∷ []) len = absurd (let none : 3 ≡ 9 = len in omega (arith, none))
nine (a ∷ b ∷ c ∷ d ∷ []) len = absurd (let none : 4 ≡ 9 = len in omega (arith, none))
nine (a ∷ b ∷ c ∷ d ∷ e ∷ []) len = absurd (let none : 5 ≡ 9 = len in omega (arith, none))
nine (a ∷ b ∷ c ∷ d ∷ e ∷ f ∷ []) len = absurd (let none : 6 ≡ 9 = len in omega (arith, none))
nine (a ∷ b ∷ c ∷ d ∷ e ∷ f ∷ g ∷ []) len = absurd (let none : 7 ≡ 9 = len in omega (arith, none))
nine (a ∷ b ∷ c ∷ d ∷ e ∷ f ∷ g ∷ h ∷ []) len = absurd (let none : 8 ≡ 9 = len in omega (arith, none))
nine (a ∷ b ∷ c ∷ d ∷ e ∷ f ∷ g ∷ h ∷ i ∷ j ∷ more) len = absurd (omega (arith, len))

pub five : (row : Row) → length row ≡ 5 → row ≡ column row 0 ∷ column row 1 ∷ column row 2 ∷ column row 3 ∷ column row 4 ∷ []
five (a ∷ b ∷ c ∷ d ∷ e ∷ []) len = refl
five [] len = absurd (let none : 0 ≡ 5 = len in omega (arith, none))
five (a ∷ []) len = absurd (let none : 1 ≡ 5 = len in omega (arith, none))
five (a ∷ b ∷ []) len = absurd (let none : 2 ≡ 5 = len in omega (arith, none))
five (a ∷ b ∷ c ∷ []) len = absurd (let none : 3 ≡ 5 = len in omega (arith, none))
five (a ∷ b ∷ c ∷ d ∷ []) len = absurd (let none : 4 ≡ 5 = len in omega (arith, none))
five (a ∷ b ∷ c ∷ d ∷ e ∷ f ∷ more) len = absurd (omega (arith, len))
