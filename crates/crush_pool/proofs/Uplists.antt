-- The up list of an erasure pool, place by place, and what both kinds of pools have in common.
use Rattle.std.proofs.Common.{◌≡◌, ℕ, List, [], ◌∷◌, Bool, true, false, None, Some, filter, find, is_some, unwrap_or, slice_index_or, refl, ap, ◌∙◌}
use Rattle.std.proofs.Math.ListN.{get_or-map}
use Rattle.crush_choose.specs.Marks.{Slot}
use Rattle.crush_pool.specs.Placements.{is_up_slot, if_up, primary_of, up_of}

at_place : (flags : List Bool) (raw : List Slot) (place : ℕ) → slice_index_or (up_of true flags raw) place None ≡ if_up flags (slice_index_or raw place None)
at_place flags raw place = get_or-map (if_up flags) raw place None

pub at_up : (flags : List Bool) (raw : List Slot) (place : ℕ) → is_up_slot flags (slice_index_or raw place None) ≡ true → slice_index_or (up_of true flags raw) place None ≡ slice_index_or raw place None
at_up flags raw place is = at_place flags raw place ∙ rw is refl

pub at_down : (flags : List Bool) (raw : List Slot) (place : ℕ) → is_up_slot flags (slice_index_or raw place None) ≡ false → slice_index_or (up_of true flags raw) place None ≡ None
at_down flags raw place is = at_place flags raw place ∙ rw is refl

-- ---- both kinds

cons_devices : (flags : List Bool) (slot : Slot) (raw : List Slot) (t : Bool) → is_up_slot flags slot ≡ t → up_of false flags raw ≡ filter is_some (up_of true flags raw)
    → up_of false flags (slot ∷ raw) ≡ filter is_some (up_of true flags (slot ∷ raw))
cons_devices flags None raw t is rest = rest
cons_devices flags (Some item) raw true is rest = rw is (ap (λ (slots : List Slot). Some item ∷ slots) rest)
cons_devices flags (Some item) raw false is rest = rw is rest

pub same_devices : (flags : List Bool) (raw : List Slot) → up_of false flags raw ≡ filter is_some (up_of true flags raw)
same_devices flags [] = refl
same_devices flags (slot ∷ raw) = cons_devices flags slot raw (is_up_slot flags slot) refl (same_devices flags raw)

cons_primary : (erasure : Bool) (flags : List Bool) (slot : Slot) (raw : List Slot) (t : Bool) → is_up_slot flags slot ≡ t
    → primary_of (up_of erasure flags raw) ≡ unwrap_or (find (is_up_slot flags) raw) None
    → primary_of (up_of erasure flags (slot ∷ raw)) ≡ unwrap_or (find (is_up_slot flags) (slot ∷ raw)) None
cons_primary true flags None raw t is rest = rest
cons_primary false flags None raw t is rest = rest
cons_primary true flags (Some item) raw true is rest = rw is refl
cons_primary false flags (Some item) raw true is rest = rw is refl
cons_primary true flags (Some item) raw false is rest = rw is rest
cons_primary false flags (Some item) raw false is rest = rw is rest

pub first_up_is_primary : (erasure : Bool) (flags : List Bool) (raw : List Slot) → primary_of (up_of erasure flags raw) ≡ unwrap_or (find (is_up_slot flags) raw) None
first_up_is_primary true flags [] = refl
first_up_is_primary false flags [] = refl
first_up_is_primary erasure flags (slot ∷ raw) = cons_primary erasure flags slot raw (is_up_slot flags slot) refl (first_up_is_primary erasure flags raw)
