-- Exactly one list is computed element by element from the elements before.
use Rattle.std.proofs.Common.{◌≡◌, ℕ, zero, suc, ◌<◌, ◌≤◌, List, [], ◌∷◌, ◌++◌, length, take, slice_index_or, refl, ap, sym, ◌∙◌, arith, length-append}
use Rattle.std.proofs.Math.Seq.{take-suc, take-length, get_or-append_seam}
use Rattle.std.proofs.lemmas.List.{take-append-le, get_or-take}
use Rattle.crush_choose.specs.Growing.{grown}
use Rattle.crush_choose.proofs.Least.{holds_from}

-- n elements, each a function of those before it; d after the end
pub record Grows {A : Type 0} (next : List A → ℕ → A) (n : ℕ) (d : A) (xs : List A) : Type 0 where
  pub long : length xs ≡ n
  pub each : (i : ℕ) → i < n → slice_index_or xs i d ≡ next (take i xs) i

pub length_grown : {A : Type 0} (next : List A → ℕ → A) (n : ℕ) → length (grown next n) ≡ n
length_grown next zero = refl
length_grown next (suc n) = rw length-append (rw (length_grown next n) (omega arith))

take_all : {A : Type 0} (xs : List A) (n : ℕ) → length xs ≡ n → take n xs ≡ xs
take_all xs n e = rw e at (take-length xs)

-- adding elements doesn't change earlier ones
take_grown : {A : Type 0} (next : List A → ℕ → A) (k n : ℕ) → k ≤ n → take k (grown next n) ≡ grown next k
take_grown next k n le =
    holds_from (λ m. take k (grown next m) ≡ grown next k) k n le (take_all (grown next k) k (length_grown next k)) (λ m low same.
    let fits : k ≤ length (grown next m) = rw length_grown low in rw take-append-le same)

last_of : {A : Type 0} (xs : List A) (n : ℕ) (x d : A) → length xs ≡ n → slice_index_or (xs ++ x ∷ []) n d ≡ x
last_of xs n x d e = rw e at (get_or-append_seam xs x [] d)

pub grown_grows : {A : Type 0} (next : List A → ℕ → A) (n : ℕ) (d : A) → Grows next n d (grown next n)
grown_grows next n d = record {
  long = length_grown next n;
  each = λ i lt.
      let begins : take (suc i) (grown next n) ≡ grown next (suc i) = take_grown next (suc i) n lt in
      let last : slice_index_or (grown next (suc i)) i d ≡ next (grown next i) i = last_of (grown next i) i (next (grown next i) i) d (length_grown next i) in
      sym (get_or-take (suc i) (grown next n) i d (omega arith)) ∙ (ap (λ xs. slice_index_or xs i d) begins
      ∙ (last ∙ ap (λ xs. next xs i) (sym (take_grown next i n (omega arith)))));
}

-- a list that follows the rule begins with the elements of `grown`
begins_grown : {A : Type 0} (next : List A → ℕ → A) (n : ℕ) (d : A) (xs : List A) → Grows next n d xs → (k : ℕ) → k ≤ n → take k xs ≡ grown next k
begins_grown next n d xs is zero le = refl
begins_grown next n d xs is (suc k) le =
    let fits : k < length xs = rw is.long le in
    rw (take-suc xs k d fits, is.each k le, begins_grown next n d xs is k (omega arith)) refl

pub grows_once : {A : Type 0} (next : List A → ℕ → A) (n : ℕ) (d : A) (xs : List A) → Grows next n d xs → xs ≡ grown next n
grows_once next n d xs is = sym (take_all xs n is.long) ∙ begins_grown next n d xs is n (omega arith)
