-- Lists in the order of a number, or of another key, that each element has.
use Rattle.std.specs.Prelude.{ℕ, ◌&&◌, ◌==◌, List, [], ◌∷◌, Bool, true, nat_le, if◌then◌else◌, Option, Some, None}

-- a list with one more element at its place in the order, in place of one with the same number
abbrev pub with_element : {A : Type 0} → (A → ℕ) → A → List A → List A
with_element number new [] = new ∷ []
with_element number new (x ∷ xs) =
    if nat_le (number new) (number x) then (if number x == number new then new ∷ xs else new ∷ x ∷ xs)
    else x ∷ with_element number new xs

-- a list without the first element that has a number
abbrev pub without : {A : Type 0} → (A → ℕ) → ℕ → List A → List A
without number n [] = []
without number n (x ∷ xs) = if number x == n then xs else x ∷ without number n xs

-- ---- lists that are in order already

-- whether an element comes before the first of a list, if the list has one
abbrev pub is_before_first : {A : Type 0} → (A → A → Bool) → A → List A → Bool
is_before_first before x [] = true
is_before_first before x (y ∷ ys) = before x y

-- whether each element of a list comes before the next one
abbrev pub is_ascending : {A : Type 0} → (A → A → Bool) → List A → Bool
is_ascending before [] = true
is_ascending before (x ∷ xs) = is_before_first before x xs && is_ascending before xs

-- a list that is in order: none where an element comes twice or out of order
abbrev pub if_ascending : {A : Type 0} → (A → A → Bool) → List A → Option (List A)
if_ascending before xs = if is_ascending before xs then Some xs else None
