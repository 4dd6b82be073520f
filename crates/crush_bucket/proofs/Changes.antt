-- What changes of weights leave as it was in a straw2 bucket.
use Rattle.std.proofs.Common.{◌≡◌, ◌≢◌, ℕ, ◌<◌, ◌≤◌, List, length, refl, ap, sym, ◌∙◌, arith, ◌⊎◌, inl, inr}
use Rattle.crush_bucket.specs.Bucket.{WeightedItem, at, item_at, weight_at}
use Rattle.crush_bucket.specs.Kinds.{arrival, straw2_place, straw2_pick}
use Rattle.crush_bucket.specs.Straw2Laws.{HasSameItems, IsLowered, DiffersAt, AllAreAmong}
use Rattle.crush_bucket.proofs.First.{first_is}
use Rattle.crush_bucket.proofs.Arrivals.{lighter_later}

-- where the item that was picked weighs no less, and the one that is picked no more, the first
-- arrives no later than before, and the second no sooner: each is the first of the two
stays : (items others : List WeightedItem) (x r : ℕ) → 0 < length items → HasSameItems items others
    → weight_at items (straw2_place items x r) ≤ weight_at others (straw2_place items x r) → weight_at others (straw2_place others x r) ≤ weight_at items (straw2_place others x r)
    → straw2_place others x r ≡ straw2_place items x r
stays items others x r some is kept light =
    let old = straw2_place items x r in
    let new = straw2_place others x r in
    let size = is.size in
    let was = first_is items x r some in
    let now = first_is others x r (omega (arith, size)) in
    let within = was.within in
    let inside = now.within in
    let no_later : arrival x r (at others old) ≤ arrival x r (at items old) = lighter_later x r (at others old) (at items old) (sym (is.same old)) kept in
    let no_sooner : arrival x r (at items new) ≤ arrival x r (at others new) = lighter_later x r (at items new) (at others new) (is.same new) light in
    let first : arrival x r (at items old) ≤ arrival x r (at items new) = was.soonest new (omega (arith, size, inside)) in
    let second : arrival x r (at others new) ≤ arrival x r (at others old) = now.soonest old (omega (arith, size, within)) in
    let split : (new < old) ⊎ ((old < new) ⊎ (new ≡ old)) = grind arith in
    elim split [
      | inl less ↦ (let sooner = was.before new less in absurd (omega (arith, sooner, no_later, no_sooner, second)))
      | inr rest ↦ elim rest [
        | inl more ↦ (let sooner = now.before old more in absurd (omega (arith, sooner, no_later, no_sooner, first)))
        | inr same ↦ same
      ]
    ]

pub moves : (items others : List WeightedItem) (x r : ℕ) → 0 < length items → HasSameItems items others
    → (straw2_place others x r ≡ straw2_place items x r) ⊎ ((weight_at others (straw2_place items x r) < weight_at items (straw2_place items x r)) ⊎ (weight_at items (straw2_place others x r) < weight_at others (straw2_place others x r)))
moves items others x r some is =
    let old = straw2_place items x r in
    let new = straw2_place others x r in
    let left : (weight_at others old < weight_at items old) ⊎ (weight_at items old ≤ weight_at others old) = grind arith in
    let right : (weight_at items new < weight_at others new) ⊎ (weight_at others new ≤ weight_at items new) = grind arith in
    elim left [
      | inl lower ↦ inr (inl lower)
      | inr kept ↦ elim right [
        | inl higher ↦ inr (inr higher)
        | inr light ↦ inl (stays items others x r some is kept light)
      ]
    ]

-- ---- picks

-- what stands at a place
pub at_place : (items : List WeightedItem) (x r place : ℕ) → straw2_place items x r ≡ place → straw2_pick items x r ≡ item_at items place
unfolding straw2_pick
at_place items x r place e = ap (λ (k : ℕ). item_at items k) e

same_pick : (items others : List WeightedItem) (x r : ℕ) → HasSameItems items others → straw2_place others x r ≡ straw2_place items x r → straw2_pick others x r ≡ straw2_pick items x r
same_pick items others x r is same =
    at_place others x r (straw2_place items x r) same ∙ (is.same (straw2_place items x r) ∙ sym (at_place items x r (straw2_place items x r) refl))

pub lowered : (items others : List WeightedItem) (x r : ℕ) → 0 < length items → IsLowered items others (straw2_place items x r) → straw2_pick others x r ≡ straw2_pick items x r
lowered items others x r some is =
    let old = straw2_place items x r in
    let new = straw2_place others x r in
    let split : (new ≡ old) ⊎ (new ≢ old) = grind arith in
    same_pick items others x r is.same_items (elim split [
      | inl same ↦ same
      | inr apart ↦ stays items others x r some is.same_items is.kept (is.lower new apart)
    ])

-- where the weight at a place falls, only the item there loses picks
pub falls : (items others : List WeightedItem) (x r place : ℕ) → 0 < length items → DiffersAt items others place → weight_at others place ≤ weight_at items place
    → (straw2_pick others x r ≡ straw2_pick items x r) ⊎ (straw2_pick items x r ≡ item_at items place)
falls items others x r place some differs lower =
    let old = straw2_place items x r in
    let here : (old ≡ place) ⊎ (old ≢ place) = grind arith in
    elim here [
      | inl is ↦ inr (at_place items x r place is)
      | inr apart ↦ inl (lowered items others x r some (record {
        same_items = differs.same_items;
        kept = (let same = differs.rest old apart in omega (arith, same));
        lower = λ j other. (let either : (j ≡ place) ⊎ (j ≢ place) = grind arith in elim either [
          | inl e ↦ rw e lower
          | inr away ↦ (let same = differs.rest j away in omega (arith, same))
        ]);
      }))
    ]

back : (items others : List WeightedItem) (place : ℕ) → DiffersAt items others place → DiffersAt others items place
back items others place differs =
    let is = differs.same_items in
    record { same_items = record { size = sym is.size; same = λ j. sym (is.same j) }; rest = λ j away. sym (differs.rest j away) }

-- where it rises, only the item there gains picks
pub rises : (items others : List WeightedItem) (x r place : ℕ) → 0 < length items → DiffersAt items others place → weight_at items place ≤ weight_at others place
    → (straw2_pick others x r ≡ straw2_pick items x r) ⊎ (straw2_pick others x r ≡ item_at items place)
rises items others x r place some differs higher =
    let is = differs.same_items in
    let size = is.size in
    elim (falls others items x r place (omega (arith, size)) (back items others place differs) higher) [
      | inl same ↦ inl (sym same)
      | inr here ↦ inr (here ∙ is.same place)
    ]

pub one_change : (items others : List WeightedItem) (x r place : ℕ) → 0 < length items → DiffersAt items others place
    → (straw2_pick others x r ≡ straw2_pick items x r) ⊎ ((straw2_pick items x r ≡ item_at items place) ⊎ (straw2_pick others x r ≡ item_at items place))
one_change items others x r place some differs =
    let way : (weight_at others place ≤ weight_at items place) ⊎ (weight_at items place ≤ weight_at others place) = grind arith in
    elim way [
      | inl lower ↦ elim (falls items others x r place some differs lower) [
        | inl same ↦ inl same
        | inr was ↦ inr (inl was)
      ]
      | inr higher ↦ elim (rises items others x r place some differs higher) [
        | inl same ↦ inl same
        | inr now ↦ inr (inr now)
      ]
    ]

-- ---- another order

-- what is picked of the others arrives no later than what is picked of the items among them
no_later : (items others : List WeightedItem) (x r : ℕ) → 0 < length items → 0 < length others → AllAreAmong others items
    → arrival x r (at others (straw2_place others x r)) ≤ arrival x r (at items (straw2_place items x r))
no_later items others x r some more among =
    let was = first_is items x r some in
    let now = first_is others x r more in
    let (i, low, is) = among (straw2_place items x r) was.within in
    let same : arrival x r (at others i) ≡ arrival x r (at items (straw2_place items x r)) = ap (arrival x r) is in
    let le = now.soonest i low in omega (arith, le, same)

pub at_once : (items others : List WeightedItem) (x r : ℕ) → 0 < length items → AllAreAmong items others → AllAreAmong others items
    → arrival x r (at others (straw2_place others x r)) ≡ arrival x r (at items (straw2_place items x r))
at_once items others x r some out back =
    let (i, low, is) = back 0 some in
    let more : 0 < length others = omega (arith, low) in
    omega (arith, no_later items others x r some more back, no_later others items x r more some out)
