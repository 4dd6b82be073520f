-- The item of a straw2 bucket that arrives first, as one after the other is offered.
use Rattle.std.proofs.Common.{◌≡◌, ℕ, ◌+◌, ◌%◌, ◌<◌, ◌≤◌, ◌^◌, min, List, length, refl, sym, ◌∙◌, arith, ◌⊎◌, inl, inr}
use Rattle.crush_hash.specs.Hash.{hash3}
use Rattle.crush_ln.specs.Log.{delay}
use Rattle.crush_ln.proofs.Rising.{no_sooner, delay_small}
use Rattle.crush_bucket.specs.Bucket.{WeightedItem, word, at}
use Rattle.crush_bucket.specs.Kinds.{never, time_of, arrival, straw2_place}
use Rattle.crush_bucket.specs.Straw2Laws.{IsFirst}
use Rattle.crush_bucket.specs.Private.Soonest.{quotient, time, HasLimits, IsOffered, IsBest}
use Rattle.crush_bucket.specs.declared.soonest.SoonestItem.{SoonestItem}
use Rattle.crush_bucket.proofs.Arrivals.{time_small, time_le}
use Rattle.crush_bucket.proofs.First.{is_place}
use Rattle.crush_bucket.proofs.Quotients.{time_is}

-- ---- one offer

-- an item that draws no more and weighs no more
pub passed_over : (old : SoonestItem) (place draw weight : ℕ) → HasLimits old → draw < 2 ^ 16 → draw ≤ old.draw → weight ≤ old.weight → IsOffered old place (time_of draw weight) old
passed_over old place draw weight has small low light =
    record { has_limits = has; either = inl (has.limits draw weight small low light, refl, refl) }

-- one that arrives no sooner
pub no_better : (old : SoonestItem) (place draw weight : ℕ) → HasLimits old → time old ≤ time_of draw weight → IsOffered old place (time_of draw weight) old
no_better old place draw weight has late = record { has_limits = has; either = inl (late, refl, refl) }

-- one that arrives sooner
pub better : (old new : SoonestItem) (place draw weight : ℕ) → draw < 2 ^ 16 → time_of draw weight < time old → new ≡ record { place = place; delay = delay draw; draw = min draw 65533; weight = weight } → IsOffered old place (time_of draw weight) new
better old new place draw weight small less is =
    let same : time_of draw weight ≡ quotient (delay draw) weight = time_is draw weight in
    rw is (record {
      has_limits = record {
        limits = λ d w few low light. (let h = time_le draw weight d w (no_sooner d draw (omega arith) (omega arith) small) light in omega (arith, h, same));
        low = delay_small draw;
      };
      either = inr (less, refl, sym same);
    })

-- ---- over the items

pub offered : (items : List WeightedItem) (x r n : ℕ) (old new : SoonestItem) → IsBest items x r n old → IsOffered old n (arrival x r (at items n)) new → IsBest items x r (n + 1) new
offered items x r n old new is o = elim o.either [
  | inl (later, same, when) ↦ record {
    has_limits = o.has_limits;
    soonest = λ j lt. (let either : (j < n) ⊎ (j ≡ n) = grind arith in elim either [ inl below ↦ (let h = is.soonest j below in omega (arith, h, when)) | inr e ↦ rw e (omega (arith, later, when)) ]);
    before = λ j lt. (let h = is.before j (omega (arith, same, lt)) in omega (arith, h, when));
    is = elim is.is [
      | inl (lt, own) ↦ inl (omega (arith, lt, same), rw same (when ∙ own))
      | inr (first, none) ↦ inr (same ∙ first, when ∙ none)
    ];
  }
  | inr (less, here, when) ↦ record {
    has_limits = o.has_limits;
    soonest = λ j lt. (let either : (j < n) ⊎ (j ≡ n) = grind arith in elim either [ inl below ↦ (let h = is.soonest j below in omega (arith, h, less, when)) | inr e ↦ rw e (omega (arith, when)) ]);
    before = λ j lt. (let h = is.soonest j (omega (arith, here, lt)) in omega (arith, h, less, when));
    is = inl (omega (arith, here), rw here when);
  }
]

whole : (items : List WeightedItem) (x r : ℕ) (s : SoonestItem) → 0 < length items → IsBest items x r (length items) s → IsFirst items x r s.place
whole items x r s some is = elim is.is [
  | inl (lt, own) ↦ record {
    within = lt;
    soonest = λ j few. (let h = is.soonest j few in omega (arith, h, own));
    before = λ j few. (let h = is.before j few in omega (arith, h, own));
  }
  | inr (first, none) ↦ record {
    within = omega (arith, first);
    soonest = λ j few. (
        let h = is.soonest j few in
        let least : arrival x r (at items s.place) ≤ never = time_small (hash3 x (word (at items s.place).0) r % 65536) (at items s.place).1.0 in
        omega (arith, h, none, least));
    before = λ j few. absurd (omega (arith, first, few));
  }
]

pub place_is : (items : List WeightedItem) (x r : ℕ) (s : SoonestItem) → 0 < length items → IsBest items x r (length items) s → s.place ≡ straw2_place items x r
place_is items x r s some is = sym (is_place items x r s.place (whole items x r s some is))

-- ---- in lanes

pub offered_at : (items : List WeightedItem) (x r from lane hash : ℕ) (old new : SoonestItem) → IsBest items x r (from + lane) old
    → hash ≡ hash3 x (word (at items (from + lane)).0) r → IsOffered old (from + lane) (time_of (hash % 65536) (at items (from + lane)).1.0) new → IsBest items x r (from + (lane + 1)) new
offered_at items x r from lane hash old new is same o =
    let e : from + (lane + 1) ≡ from + lane + 1 = omega arith in
    let arrived : IsOffered old (from + lane) (arrival x r (at items (from + lane))) new = rw (sym same) o in
    rw e (offered items x r (from + lane) old new is arrived)
