-- A list of elements without a fault has none in another order either.
use Rattle.std.proofs.Common.{arith, ◌≡◌, ◌∙◌, ◌+◌, ◌<◌, false, Option, Some, None, List, [], ◌∷◌, ◌++◌, ℕ, zero, suc, refl, ap, length, map, nat_eq}
use Rattle.std.specs.List.{AllByRecursion, IsDistinct}
use Rattle.std.specs.Str.{bytes_eq}
use Rattle.std.specs.List.Sorted.{IsPermutation}
use Rattle.std.proofs.lemmas.Cmp.{nat_eq_equiv, nat_list_eq_equiv}
use Rattle.std.proofs.lemmas.List.{append-nil, append_assoc, length-append}
use Rattle.std.proofs.lemmas.List.Elements.{All-from_recursion, recursion_from_All}
use Rattle.std.proofs.lemmas.List.Sorted.{IsPermutation-map, IsPermutation-append_right, All-permutation, length_permutation}
use Rattle.std.proofs.lemmas.Map.Keys.{IsDistinct-IsPermutation}
use Rattle.crush_map.specs.declared.fault.FaultCode.{FaultCode}
use Rattle.crush_map.specs.declared.fault.Element.{Element}
use Rattle.crush_map.specs.Faults.{SymbolTable, has_number, has_name, at_place, first_in}
use Rattle.crush_map.proofs.Apart.{distinct_push, new_at}
use Rattle.crush_map.proofs.Passing.{first_none, second_none}

-- an element without a fault: there is room, it is right by itself, and its number and name are new
pub record Passes {X : Type 0} (Own : SymbolTable → X → Type 0) (limit : ℕ) (number : X → ℕ) (name : X → List ℕ) (numbers : List ℕ) (names : List (List ℕ)) (known : SymbolTable) (x : X) : Type 0 where
  pub room : length numbers < limit
  pub own : Own known x
  pub new_number : has_number numbers (number x) ≡ false
  pub new_name : has_name names (name x) ≡ false

-- a kind of elements that have a number and a name
pub record Kind {X : Type 0} (check : SymbolTable → X → Option FaultCode) (with : SymbolTable → X → SymbolTable) (Own : SymbolTable → X → Type 0) : Type 0 where
  pub limit : ℕ
  pub number : X → ℕ
  pub name : X → List ℕ
  pub numbers : SymbolTable → List ℕ
  pub names : SymbolTable → List (List ℕ)
  pub numbers_with : (k : SymbolTable) (x : X) → numbers (with k x) ≡ numbers k ++ number x ∷ []
  pub names_with : (k : SymbolTable) (x : X) → names (with k x) ≡ names k ++ name x ∷ []
  pub own_with : (k : SymbolTable) (x y : X) → Own k y → Own (with k x) y
  pub own_before : (k : SymbolTable) (x y : X) → Own (with k x) y → Own k y
  pub splits : (k : SymbolTable) (x : X) → check k x ≡ None → Passes Own limit number name (numbers k) (names k) k x
  pub joins : (k : SymbolTable) (x : X) → Passes Own limit number name (numbers k) (names k) k x → check k x ≡ None

-- what holds for a list without a fault, of elements with a number and a name
pub record Good {X : Type 0} (Own : SymbolTable → X → Type 0) (limit : ℕ) (number : X → ℕ) (name : X → List ℕ) (numbers : List ℕ) (names : List (List ℕ)) (known : SymbolTable) (xs : List X) : Type 0 where
  pub room : (i : ℕ) → i < length xs → length numbers + i < limit
  pub own : AllByRecursion (Own known) xs
  pub distinct_numbers : IsDistinct nat_eq (numbers ++ map number xs)
  pub distinct_names : IsDistinct bytes_eq (names ++ map name xs)

pub not_placed : (element : Element) (n : ℕ) (o : Option FaultCode) → at_place element n o ≡ None → o ≡ None
not_placed element n None h = refl
not_placed element n (Some code) h = cc

more_room : (i m limit : ℕ) (n : ℕ) → m < limit → ((j : ℕ) → j < n → (m + 1) + j < limit) → i < suc n → m + i < limit
more_room zero m limit n here later short = omega arith
more_room (suc i) m limit n here later short = let h : (m + 1) + i < limit = later i (omega arith) in omega arith

mapped : {X : Type 0} (P Q : X → Type 0) (xs : List X) → ((x : X) → P x → Q x) → AllByRecursion P xs → AllByRecursion Q xs
mapped P Q [] f h = tt
mapped P Q (x ∷ xs) f h = (f x h.0, mapped P Q xs f h.1)

pub good : {X : Type 0} (check : SymbolTable → X → Option FaultCode) (with : SymbolTable → X → SymbolTable) (Own : SymbolTable → X → Type 0) (kind : Kind check with Own) (element : Element) (n : ℕ) (k : SymbolTable) (xs : List X) →
    IsDistinct nat_eq (kind.numbers k) → IsDistinct bytes_eq (kind.names k) → first_in element check with n k xs ≡ None →
    Good Own kind.limit kind.number kind.name (kind.numbers k) (kind.names k) k xs
unfolding first_in
good check with Own kind element n k [] ns ms h = record {
  room = λ i short. absurd (omega arith);
  own = tt;
  distinct_numbers = rw (append-nil (kind.numbers k)) ns;
  distinct_names = rw (append-nil (kind.names k)) ms;
}
good check with Own kind element n k (x ∷ xs) ns ms h =
    let p = kind.splits k x (not_placed element n (check k x) (first_none (at_place element n (check k x)) _ h)) in
    let ns' : IsDistinct nat_eq (kind.numbers (with k x)) = rw (kind.numbers_with k x) (distinct_push nat_eq (kind.numbers k) (kind.number x) ns p.new_number) in
    let ms' : IsDistinct bytes_eq (kind.names (with k x)) = rw (kind.names_with k x) (distinct_push bytes_eq (kind.names k) (kind.name x) ms p.new_name) in
    let g = good check with Own kind element (n + 1) (with k x) xs ns' ms' (second_none (at_place element n (check k x)) _ h) in
    let len : length (kind.numbers (with k x)) ≡ length (kind.numbers k) + 1 = ap length (kind.numbers_with k x) ∙ length-append (kind.numbers k) (kind.number x ∷ []) in
    record {
      room = λ i short. more_room i (length (kind.numbers k)) kind.limit (length xs) p.room (λ j s. rw (← len) (g.room j s)) (omega arith);
      own = (p.own, mapped (Own (with k x)) (Own k) xs (λ y. kind.own_before k x y) g.own);
      distinct_numbers = rw (append_assoc (kind.numbers k) (kind.number x ∷ []) (map kind.number xs)) at (rw (kind.numbers_with k x) at g.distinct_numbers);
      distinct_names = rw (append_assoc (kind.names k) (kind.name x ∷ []) (map kind.name xs)) at (rw (kind.names_with k x) at g.distinct_names);
    }

pub from_good : {X : Type 0} (check : SymbolTable → X → Option FaultCode) (with : SymbolTable → X → SymbolTable) (Own : SymbolTable → X → Type 0) (kind : Kind check with Own) (element : Element) (n : ℕ) (k : SymbolTable) (xs : List X) →
    Good Own kind.limit kind.number kind.name (kind.numbers k) (kind.names k) k xs → first_in element check with n k xs ≡ None
unfolding first_in
from_good check with Own kind element n k [] g = refl
from_good check with Own kind element n k (x ∷ xs) g =
    let room : length (kind.numbers k) < kind.limit = let h = g.room 0 (omega arith) in omega arith in
    let e : check k x ≡ None = kind.joins k x (record {
      room = room;
      own = g.own.0;
      new_number = new_at nat_eq (kind.numbers k) (kind.number x) (map kind.number xs) g.distinct_numbers;
      new_name = new_at bytes_eq (kind.names k) (kind.name x) (map kind.name xs) g.distinct_names;
    }) in
    let len : length (kind.numbers (with k x)) ≡ length (kind.numbers k) + 1 = ap length (kind.numbers_with k x) ∙ length-append (kind.numbers k) (kind.number x ∷ []) in
    rw e (from_good check with Own kind element (n + 1) (with k x) xs (record {
      room = λ i short. let h = g.room (suc i) (omega arith) in rw len (omega arith);
      own = mapped (Own k) (Own (with k x)) xs (λ y. kind.own_with k x y) g.own.1;
      distinct_numbers = rw (kind.numbers_with k x, append_assoc (kind.numbers k) (kind.number x ∷ []) (map kind.number xs)) g.distinct_numbers;
      distinct_names = rw (kind.names_with k x, append_assoc (kind.names k) (kind.name x ∷ []) (map kind.name xs)) g.distinct_names;
    }))

-- another order of a list without a fault has none
pub reordered : {X : Type 0} (check : SymbolTable → X → Option FaultCode) (with : SymbolTable → X → SymbolTable) (Own : SymbolTable → X → Type 0) (kind : Kind check with Own) (element : Element) (k : SymbolTable) (xs ys : List X) →
    IsPermutation xs ys → IsDistinct nat_eq (kind.numbers k) → IsDistinct bytes_eq (kind.names k) → first_in element check with 0 k xs ≡ None →
    first_in element check with 0 k ys ≡ None
reordered check with Own kind element k xs ys p ns ms h =
    let g = good check with Own kind element 0 k xs ns ms h in
    let len : length ys ≡ length xs = length_permutation xs ys p in
    from_good check with Own kind element 0 k ys (record {
      room = λ i short. g.room i (omega arith);
      own = recursion_from_All (Own k) ys (All-permutation (Own k) xs ys p (All-from_recursion (Own k) xs g.own));
      distinct_numbers = IsDistinct-IsPermutation nat_eq nat_eq_equiv.symm (kind.numbers k ++ map kind.number xs) (kind.numbers k ++ map kind.number ys)
          (IsPermutation-append_right (kind.numbers k) (map kind.number xs) (map kind.number ys) (IsPermutation-map kind.number xs ys p)) g.distinct_numbers;
      distinct_names = IsDistinct-IsPermutation bytes_eq nat_list_eq_equiv.symm (kind.names k ++ map kind.name xs) (kind.names k ++ map kind.name ys)
          (IsPermutation-append_right (kind.names k) (map kind.name xs) (map kind.name ys) (IsPermutation-map kind.name xs ys p)) g.distinct_names;
    })
