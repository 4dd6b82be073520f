-- The first place of a straw2 bucket whose item arrives no later than any.
use Rattle.std.proofs.Common.{◌≡◌, ℕ, zero, suc, ◌-◌, ◌<◌, ◌≤◌, nat_le, Bool, true, false, List, [], ◌∷◌, length, refl, arith, ◌⊎◌, inl, inr}
use Rattle.std.specs.List.{list_all}
use Rattle.std.proofs.lemmas.Bool.Decides.{nat_tests}
use Rattle.std.proofs.lemmas.List.Folds.{list_all_at}
use Rattle.std.proofs.lemmas.List.Sums.{position_or_len_is}
use Rattle.crush_bucket.specs.Bucket.{WeightedItem, no_item, at}
use Rattle.crush_bucket.specs.Kinds.{arrival, is_soonest, straw2_place}
use Rattle.crush_bucket.specs.Straw2Laws.{IsFirst}

-- ---- no other place is

-- a test passes all if it passes at each place
all_pass : (p : WeightedItem → Bool) (items : List WeightedItem) → ((j : ℕ) → j < length items → p (at items j) ≡ true) → list_all p items ≡ true
all_pass p [] h = refl
all_pass p (e ∷ items) h =
    let here : p e ≡ true = h 0 (omega arith) in
    rw here (all_pass p items (λ j lt. h (suc j) (omega arith)))

-- an item that arrives no later than any
passes : (items : List WeightedItem) (x r place : ℕ) → IsFirst items x r place → is_soonest items x r (at items place) ≡ true
passes items x r place is = all_pass (λ other. nat_le (arrival x r (at items place)) (arrival x r other)) items (λ j lt. let le = is.soonest j lt in grind (arith, nat_tests))

-- an item before it
fails : (items : List WeightedItem) (x r place j : ℕ) → IsFirst items x r place → j < place → is_soonest items x r (at items j) ≡ false
fails items x r place j is before =
    let lt = is.before j before in
    list_all_at (λ other. nat_le (arrival x r (at items j)) (arrival x r other)) items place no_item is.within (grind (arith, nat_tests))

pub is_place : (items : List WeightedItem) (x r place : ℕ) → IsFirst items x r place → straw2_place items x r ≡ place
unfolding straw2_place
is_place items x r place is =
    position_or_len_is (is_soonest items x r) items place no_item (let w = is.within in omega arith) (λ j lt. fails items x r place j is lt) (λ lt. passes items x r place is)

-- ---- there is one

-- the first of the items at the first n places
record IsFirstBelow (items : List WeightedItem) (x r n place : ℕ) : Type 0 where
  low : place < n
  soonest : (j : ℕ) → j < n → arrival x r (at items place) ≤ arrival x r (at items j)
  before : (j : ℕ) → j < place → arrival x r (at items place) < arrival x r (at items j)

some_first : (items : List WeightedItem) (x r n : ℕ) → (place : ℕ) × IsFirstBelow items x r (suc n) place
some_first items x r zero = (
  0,
  record {
    low = omega arith;
    soonest = λ j lt. (let e : j ≡ 0 = omega arith in rw e (omega arith));
    before = λ j lt. absurd (omega arith);
  },
)
some_first items x r (suc n) =
    let (place, is) = some_first items x r n in
    let low = is.low in
    let split : (arrival x r (at items (suc n)) < arrival x r (at items place)) ⊎ (arrival x r (at items place) ≤ arrival x r (at items (suc n))) = grind arith in
    let either : (j : ℕ) → j < suc (suc n) → (j < suc n) ⊎ (j ≡ suc n) = λ j lt. (grind arith) in
    elim split [
      | inl less ↦ (
        suc n,
        record {
          low = omega arith;
          soonest = λ j lt. elim (either j lt) [
            | inl below ↦ (let h = is.soonest j below in omega (arith, h, less))
            | inr e ↦ rw e (omega arith)
          ];
          before = λ j lt. (let h = is.soonest j lt in omega (arith, h, less));
        },
      )
      | inr more ↦ (
        place,
        record {
          low = omega (arith, low);
          soonest = λ j lt. elim (either j lt) [
            | inl below ↦ is.soonest j below
            | inr e ↦ rw e more
          ];
          before = is.before;
        },
      )
    ]

pub first_is : (items : List WeightedItem) (x r : ℕ) → 0 < length items → IsFirst items x r (straw2_place items x r)
first_is items x r some =
    let (place, is) = some_first items x r (length items - 1) in
    let e : suc (length items - 1) ≡ length items = omega arith in
    let first : IsFirst items x r place = record { within = (let l = is.low in omega (arith, l)); soonest = λ j lt. is.soonest j (omega (arith, lt)); before = is.before } in
    rw (is_place items x r place first) first
