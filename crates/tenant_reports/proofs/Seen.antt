-- Entries whose items were seen before.
use Rattle.std.proofs.Common.{◌≡◌, ◌<◌, ◌≤◌, ◌+◌, ◌-◌, ◌+ℤ◌, ℕ, zero, suc, ℤ, pos, int_le, ◌&&◌, ◌||◌, List, [], ◌∷◌, Bool, true, false, not, length, drop, replicate, slice_index_or, refl, ap, ◌∙◌, arith}
use Rattle.std.specs.List.{list_any}
use Rattle.std.proofs.lemmas.List.{drop_more, get_or-replicate, length-replicate}
use Rattle.std.proofs.Math.Seq.{drop-length}
use Rattle.crush_bucket.specs.Bucket.{WeightedItem}
use Rattle.crush_map.specs.crush_types.specs.declared.limits.TheConstants.{ID_COUNT}
use Rattle.tenant_reports.specs.Picks.{are_distinct, is_of_item}
use Rattle.tenant_reports.specs.Private.Seen.{HasItems}

and_no : (b : Bool) → (b && false) ≡ false
and_no true = refl
and_no false = refl

-- an item that comes again further on
pub stands_again : (es : List WeightedItem) (place : ℕ) (d : WeightedItem) → place < length es → list_any (is_of_item (slice_index_or es place d).0.0) (drop (suc place) es) ≡ true → are_distinct es ≡ false
stands_again [] place d low again = absurd (omega arith)
stands_again (e ∷ es) zero d low again = rw again refl
stands_again (e ∷ es) (suc place) d low again = rw (stands_again es place d (omega arith) again) (and_no (not (list_any (is_of_item e.0.0) es)))

-- a new table has no item
pub none_seen : (n : ℕ) (es : List WeightedItem) → HasItems (replicate n false) (drop (length es) es)
none_seen n es z place low there = rw (drop-length es) (get_or-replicate n place false false (rw (length-replicate n false) at low))

-- the entries from a place on, where the place of the last one was left
before_place : (es : List WeightedItem) (place : ℕ) (d : WeightedItem) → 0 < place → place ≤ length es → drop (place - 1) es ≡ slice_index_or es (place - 1) d ∷ drop place es
before_place es place d some within =
    let next : place - 1 + 1 ≡ place = omega (arith, some) in
    drop_more es (place - 1) d (omega (arith, some, within)) ∙ ap (λ k. slice_index_or es (place - 1) d ∷ drop k es) next

-- a table in which the flag of one more item is set
pub one_more_seen : (es : List WeightedItem) (place : ℕ) (d : WeightedItem) (old new : List Bool) → 0 < place → place ≤ length es → HasItems old (drop place es)
    → length new ≡ length old
    → ((z : ℤ) → (k : ℕ) → k < length old → pos k ≡ pos ID_COUNT +ℤ z
    → slice_index_or new k false ≡ ((int_le z (slice_index_or es (place - 1) d).0.0 && int_le (slice_index_or es (place - 1) d).0.0 z) || slice_index_or old k false))
    → HasItems new (drop (place - 1) es)
one_more_seen es place d old new some within before len each z k low there =
    let short : k < length old = omega (arith, low, len) in
    rw (before_place es place d some within, each z k short there, before z k short there) refl

-- one more entry, whose item isn't among the others
pub one_more_distinct : (es : List WeightedItem) (place : ℕ) (d : WeightedItem) → 0 < place → place ≤ length es → are_distinct (drop place es) ≡ true
    → list_any (is_of_item (slice_index_or es (place - 1) d).0.0) (drop place es) ≡ false → are_distinct (drop (place - 1) es) ≡ true
one_more_distinct es place d some within before new = rw (before_place es place d some within, new, before) refl
