-- The order of pool and place.
use Rattle.std.proofs.Common.{◌≡◌, ℤ, IsTrue, ◌≢◌, Ordering, Equal, Less, Greater, refl, sym, subst, ◌∙◌}
use Rattle.std.specs.Ordering.{ordering_then, MatchOrdering}
use Rattle.std.specs.Int.Signed.{lt_z, ◌<ℤ◌}
use Rattle.std.specs.Cmp.{int_ranks}
use Rattle.sqlite_value.specs.declared.value.Value.TheVariants.{Int}
use Rattle.sqlite_value.specs.Order.{value_cmp}
use Rattle.sqlite_value.proofs.OrderLemmas.{value_cmp_total, value_cmp-Int}
use Rattle.std.proofs.lemmas.Cmp.{tied_itself}
use Rattle.table_schema.proofs.Rising.{below_int, below_int_back}

abbrev pub precedes : ℤ → ℤ → ℤ → ℤ → Ordering
precedes m n p q = ordering_then (value_cmp (Int m) (Int n)) (value_cmp (Int p) (Int q))

pub in_one_pool : (m n p q : ℤ) → m ≡ n → (IsTrue (lt_z p q) → precedes m n p q ≡ Less) × (precedes m n p q ≡ Less → IsTrue (lt_z p q))
in_one_pool m n p q e =
    let same : value_cmp (Int m) (Int n) ≡ Equal = subst (λ k. value_cmp (Int m) (Int k) ≡ Equal) e (tied_itself value_cmp_total (Int m)) in
    (λ low. rw same (below_int p q low), λ less. below_int_back p q (rw same at less))

pub in_two_pools : (m n p q : ℤ) → m ≢ n → (IsTrue (lt_z m n) → precedes m n p q ≡ Less) × (precedes m n p q ≡ Less → IsTrue (lt_z m n))
in_two_pools m n p q other = (λ low. rw (below_int m n low) refl, λ less. back_from (value_cmp (Int m) (Int n)) refl less)
  where
    back_from : (o : Ordering) → value_cmp (Int m) (Int n) ≡ o → ordering_then o (value_cmp (Int p) (Int q)) ≡ Less → IsTrue (lt_z m n)
    back_from Less e less = below_int_back m n e
    back_from Equal e less = absurd (other (subst (λ o. MatchOrdering o (m <ℤ n) (m ≡ n) (n <ℤ m)) (sym (value_cmp-Int m n) ∙ e) (int_ranks m n)))
    back_from Greater e less = absurd cc
