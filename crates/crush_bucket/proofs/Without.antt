-- A straw2 bucket without one of its items.
use Rattle.std.proofs.Common.{◌≡◌, ℕ, zero, suc, ◌+◌, ◌-◌, ◌<◌, ◌≤◌, List, [], ◌∷◌, ◌++◌, length, refl, ap, sym, ◌∙◌, arith, add-one, ◌⊎◌, inl, inr, length-append}
use Rattle.std.proofs.Math.Seq.{get_or-append_seam}
use Rattle.std.proofs.lemmas.List.{get_or_append_left}
use Rattle.crush_bucket.specs.Bucket.{WeightedItem, no_item, at}
use Rattle.crush_bucket.specs.Kinds.{arrival, straw2_place, straw2_pick}
use Rattle.crush_bucket.specs.Straw2Laws.{IsFirst}
use Rattle.crush_bucket.proofs.First.{is_place, first_is}
use Rattle.crush_bucket.proofs.Changes.{at_place}

shifted : (front back : List WeightedItem) (item : WeightedItem) (j : ℕ) → length front ≤ j → at (front ++ back) j ≡ at (front ++ item ∷ back) (suc j)
shifted [] back item j le = refl
shifted (e ∷ front) back item zero le = absurd (omega arith)
shifted (e ∷ front) back item (suc j) le = shifted front back item j (omega arith)

-- where an item of the shorter list stands in the longer one
record StandsAt (front back : List WeightedItem) (item : WeightedItem) (j i : ℕ) : Type 0 where
  same : at (front ++ back) j ≡ at (front ++ item ∷ back) i
  low : j < length front → i ≡ j
  high : length front ≤ j → i ≡ j + 1

stands_at : (front back : List WeightedItem) (item : WeightedItem) (j : ℕ) → (i : ℕ) × StandsAt front back item j i
stands_at front back item j =
    let split : (j < length front) ⊎ (length front ≤ j) = grind arith in
    elim split [
      | inl less ↦ (j, record { same = get_or_append_left front back no_item j less ∙ sym (get_or_append_left front (item ∷ back) no_item j less); low = λ h. refl; high = λ h. absurd (omega arith) })
      | inr more ↦ (suc j, record { same = shifted front back item j more; low = λ h. absurd (omega arith); high = λ h. sym (add-one j) })
    ]

-- the first of the longer list is that of the shorter one, if it is there
still_first : (front back : List WeightedItem) (item : WeightedItem) (x r place other : ℕ) → IsFirst (front ++ item ∷ back) x r place → StandsAt front back item other place → other < length (front ++ back) → IsFirst (front ++ back) x r other
still_first front back item x r place other first here few =
    let longer : length (front ++ item ∷ back) ≡ suc (length (front ++ back)) = grind (arith, length-append) in
    let own : arrival x r (at (front ++ back) other) ≡ arrival x r (at (front ++ item ∷ back) place) = ap (arrival x r) here.same in
    let low = here.low in
    let high = here.high in
    record {
      within = few;
      soonest = λ j lt. (
          let (i, is) = stands_at front back item j in
          let time : arrival x r (at (front ++ back) j) ≡ arrival x r (at (front ++ item ∷ back) i) = ap (arrival x r) is.same in
          let l = is.low in let h = is.high in
          let within : i < length (front ++ item ∷ back) = grind arith in
          let le = first.soonest i within in omega (arith, own, time, le));
      before = λ j lt. (
          let (i, is) = stands_at front back item j in
          let time : arrival x r (at (front ++ back) j) ≡ arrival x r (at (front ++ item ∷ back) i) = ap (arrival x r) is.same in
          let l = is.low in let h = is.high in
          let sooner : i < place = grind arith in
          let le = first.before i sooner in omega (arith, own, time, le));
    }

still_picked : (front back : List WeightedItem) (item : WeightedItem) (x r other : ℕ) → IsFirst (front ++ item ∷ back) x r (straw2_place (front ++ item ∷ back) x r) → StandsAt front back item other (straw2_place (front ++ item ∷ back) x r) → other < length (front ++ back)
    → straw2_pick (front ++ item ∷ back) x r ≡ straw2_pick (front ++ back) x r
still_picked front back item x r other first here few =
    let place = is_place (front ++ back) x r other (still_first front back item x r (straw2_place (front ++ item ∷ back) x r) other first here few) in
    at_place (front ++ item ∷ back) x r (straw2_place (front ++ item ∷ back) x r) refl
    ∙ sym (at_place (front ++ back) x r other place ∙ ap (λ (e : WeightedItem). e.0) here.same)

pub without_item : (front back : List WeightedItem) (item : WeightedItem) (x r : ℕ) → 0 < length (front ++ back)
    → (straw2_pick (front ++ item ∷ back) x r ≡ item.0) ⊎ (straw2_pick (front ++ item ∷ back) x r ≡ straw2_pick (front ++ back) x r)
without_item front back item x r some =
    let longer : length (front ++ item ∷ back) ≡ suc (length (front ++ back)) = grind (arith, length-append) in
    let sum : length (front ++ back) ≡ length front + length back = grind (arith, length-append) in
    let place = straw2_place (front ++ item ∷ back) x r in
    let first = first_is (front ++ item ∷ back) x r (omega (arith, longer)) in
    let within = first.within in
    let split : (place ≡ length front) ⊎ ((place < length front) ⊎ (length front < place)) = grind arith in
    elim split [
      | inl here ↦ inl (at_place (front ++ item ∷ back) x r (length front) here ∙ ap (λ (e : WeightedItem). e.0) (get_or-append_seam front item back no_item))
      | inr apart ↦ inr (elim apart [
        | inl less ↦ (
            let (i, is) = stands_at front back item place in
            let e : i ≡ place = is.low less in
            still_picked front back item x r place first (rw e at is) (omega (arith, sum)))
        | inr more ↦ (
            let (i, is) = stands_at front back item (place - 1) in
            let e : i ≡ place = (let h = is.high (omega arith) in omega (arith, h)) in
            still_picked front back item x r (place - 1) first (rw e at is) (omega (arith, longer, within)))
      ])
    ]
