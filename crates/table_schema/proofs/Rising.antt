-- Lists that rise from each element to the next.
use Rattle.std.proofs.Common.{◌≡◌, ℕ, ℤ, suc, zero, ◌<◌, ◌-◌, List, [], ◌∷◌, length, get_or, Bool, true, false, T, IsTrue, Ordering, Less, Equal, Greater, is_lt, nat_cmp, true≢false, refl, sym, ap, subst, ◌∙◌, arith}
use Rattle.std.specs.Int.Signed.{lt_z, lt_z_yes, ◌<ℤ◌}
use Rattle.std.specs.Cmp.Lexicographic.{slice_cmp}
use Rattle.std.specs.Ordering.{MatchOrdering}
use Rattle.std.specs.Cmp.{int_cmp_is, int_ranks}
use Rattle.sqlite_value.specs.declared.value.Value.TheVariants.{Int, Text as Words}
use Rattle.sqlite_value.specs.Order.{value_cmp}
use Rattle.sqlite_value.proofs.OrderLemmas.{value_cmp-Int, value_cmp-Text}
use Rattle.sqlite_trees.specs.Tree.{IsAscending}
use Rattle.sqlite_keyed.proofs.ListLemmas.{all_weaker}

is_so : (b : Bool) → T b → IsTrue b
is_so true h = refl
is_so false h = elim h [ ]

-- integers are compared as numbers
pub below_int : (m n : ℤ) → IsTrue (lt_z m n) → value_cmp (Int m) (Int n) ≡ Less
below_int m n low = value_cmp-Int m n ∙ sym (int_cmp_is m n Less (lt_z_yes (subst T (sym low) tt)))

pub below_int_back : (m n : ℤ) → value_cmp (Int m) (Int n) ≡ Less → IsTrue (lt_z m n)
below_int_back m n less =
    let it : m <ℤ n = subst (λ o. MatchOrdering o (m <ℤ n) (m ≡ n) (n <ℤ m)) (sym (value_cmp-Int m n) ∙ less) (int_ranks m n) in
    is_so (lt_z m n) it.lt

-- and texts by their bytes
pub below_text : (s t : List ℕ) → IsTrue (is_lt (slice_cmp nat_cmp s t)) → value_cmp (Words s) (Words t) ≡ Less
below_text s t low = value_cmp-Text s t ∙ least (slice_cmp nat_cmp s t) low
  where
    least : (o : Ordering) → IsTrue (is_lt o) → o ≡ Less
    least Less h = refl
    least Equal h = absurd (true≢false (sym h))
    least Greater h = absurd (true≢false (sym h))

pub below_text_back : (s t : List ℕ) → value_cmp (Words s) (Words t) ≡ Less → IsTrue (is_lt (slice_cmp nat_cmp s t))
below_text_back s t less = ap is_lt (sym (value_cmp-Text s t) ∙ less)

module _ {X : Type 0} (R : X → X → Type 0) where
  -- `R` holds of each two neighbours among the first `n` elements
  abbrev pub RisesTo : ℕ → List X → Type 0
  RisesTo n xs = (i : ℕ) (d e : X) → suc i < n → suc i < length xs → R (get_or xs i d) (get_or xs (suc i) e)

  pub neighbours : (xs : List X) → IsAscending R xs → (i : ℕ) (d e : X) → suc i < length xs → R (get_or xs i d) (get_or xs (suc i) e)
  neighbours [] up i d e low = absurd (omega (arith, low))
  neighbours (x ∷ []) up i d e low = absurd (omega (arith, low))
  neighbours (x ∷ y ∷ xs) up zero d e low = up.0.0
  neighbours (x ∷ y ∷ xs) up (suc i) d e low = neighbours (y ∷ xs) up.1 i d e (omega (arith, low))

  pub near : (xs : List X) → IsAscending R xs → (at : ℕ) (d e : X) → 0 < at → at < length xs → R (get_or xs (at - 1) d) (get_or xs at e)
  near xs up at d e low in_it =
      let here : suc (at - 1) ≡ at = omega (arith, low) in
      subst (λ n. R (get_or xs (at - 1) d) (get_or xs n e)) here (neighbours xs up (at - 1) d e (omega (arith, low, in_it)))

  pub from_neighbours : ((a b c : X) → R a b → R b c → R a c) → (n : ℕ) (xs : List X) → length xs < suc n → RisesTo n xs → IsAscending R xs
  from_neighbours trans n [] long near = tt
  from_neighbours trans n (x ∷ []) long near = (tt, tt)
  from_neighbours trans n (x ∷ y ∷ xs) long near =
      let first : R x y = near 0 x x (omega (arith, long)) (omega arith) in
      let tail : IsAscending R (y ∷ xs) = from_neighbours trans n (y ∷ xs) (omega (arith, long)) (λ i d e low in_it. near_tail i d e low in_it) in
      ((first, all_weaker (R y) (R x) (λ z. trans x y z first) xs tail.0), tail)
    where
      near_tail : RisesTo n (y ∷ xs)
      near_tail i d e low in_it = near (suc i) d e (omega (arith, in_it, long)) (omega (arith, in_it))
