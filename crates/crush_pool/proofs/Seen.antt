-- Changes whose devices were seen before.
use Rattle.std.proofs.Common.{◌≡◌, ◌<◌, ℕ, zero, suc, ◌&&◌, List, [], ◌∷◌, Bool, true, false, not, length, drop, replicate, slice_index_or, refl, arith}
use Rattle.std.specs.List.{list_any}
use Rattle.std.proofs.lemmas.List.{get_or-replicate, length-replicate}
use Rattle.std.proofs.Math.Seq.{drop-length}
use Rattle.crush_pool.specs.Changes.{are_distinct, is_of_device}
use Rattle.crush_pool.specs.Private.Seen.{HasDevices}
use Rattle.crush_pool.specs.declared.changes.DeviceChange.{DeviceChange}

and_no : (b : Bool) → (b && false) ≡ false
and_no true = refl
and_no false = refl

-- a device that stands again further on
pub stands_again : (cs : List DeviceChange) (place : ℕ) (d : DeviceChange) → place < length cs → list_any (is_of_device (slice_index_or cs place d).device) (drop (suc place) cs) ≡ true → are_distinct cs ≡ false
stands_again [] place d low again = absurd (omega arith)
stands_again (c ∷ cs) zero d low again = rw again refl
stands_again (c ∷ cs) (suc place) d low again = rw (stands_again cs place d (omega arith) again) (and_no (not (list_any (is_of_device c.device) cs)))

-- a new table has none
pub none_seen : (n : ℕ) (cs : List DeviceChange) → HasDevices (replicate n false) (drop (length cs) cs)
none_seen n cs id low = rw (drop-length cs) (none id low)
  where
    none : (id : ℕ) → id < length (replicate n false) → slice_index_or (replicate n false) id false ≡ false
    none id low = get_or-replicate n id false false (rw (length-replicate n false) at low)
