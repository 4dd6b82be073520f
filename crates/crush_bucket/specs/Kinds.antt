-- What each kind of bucket picks, for an input x and an attempt r (Weil et al., CRUSH, SC 2006;
-- Ceph's `mapper.c`).
use Rattle.std.specs.Prelude.{ℕ, zero, suc, ◌+◌, ◌-◌, ◌*◌, ◌/◌, ◌%◌, ◌^◌, ◌==◌, List, length, Bool, nat_lt, nat_le, min, if◌then◌else◌, Option, Some, None, unwrap_or, slice_index}
use Rattle.std.specs.List.{list_all, position_or_len}
use Rattle.crush_hash.specs.Hash.{hash3, hash4}
use Rattle.crush_ln.specs.Log.{delay}
use Rattle.crush_map.specs.crush_types.specs.declared.ItemId.{ItemId}
use Rattle.crush_bucket.specs.Bucket.{WeightedItem, word, item_at, weight_at, weight_within}
use Rattle.crush_hash.specs.Permutation.{permutation}

-- ---- uniform: the item at a place of the permutation

unfoldable pub uniform_pick : ItemId → List WeightedItem → ℕ → ℕ → ItemId
uniform_pick id items x r =
    item_at items (slice_index (permutation id (length items) x) (r % length items))

-- ---- list: the item at the greatest place that takes the input

-- whether a place takes the input: its draw, the lower 16 bits of a hash scaled by the sum of the
-- weights up to the place, is below its weight
abbrev pub takes : ItemId → List WeightedItem → ℕ → ℕ → ℕ → Bool
takes id items x r place =
    let hash = hash4 x (word (item_at items place)) r (word id) in
    let draw = hash % 65536 * weight_within items 0 (place + 1) / 65536 in
    nat_lt draw (weight_at items place)

-- the greatest number below n that passes
abbrev pub greatest : (ℕ → Bool) → ℕ → Option ℕ
greatest p zero = None
greatest p (suc n) = if p n then Some n else greatest p n

-- the greatest place that takes the input, or the first place where none does
abbrev pub list_place : ItemId → List WeightedItem → ℕ → ℕ → ℕ
list_place id items x r = unwrap_or (greatest (takes id items x r) (length items)) 0

unfoldable pub list_pick : ItemId → List WeightedItem → ℕ → ℕ → ItemId
list_pick id items x r = item_at items (list_place id items x r)

-- ---- tree: the halving of a range of places

-- the least number from k on that passes, of those below k + n; k + n where none does
abbrev pub least_from : (ℕ → Bool) → ℕ → ℕ → ℕ
least_from p k zero = k
least_from p k (suc n) = if p k then k else least_from p (k + 1) n

-- the least k for which 2^k places hold a bucket of `size` items
abbrev pub height_of : ℕ → ℕ
height_of size = least_from (λ k. nat_le size (2 ^ k)) 0 size

-- the label of the range of 2^h places from a place on, which is the node's index in `node_weights`
abbrev pub label : ℕ → ℕ → ℕ
label from h = 2 * from + 2 ^ h

-- the draw at a range: a hash of its label, scaled by its weight
abbrev pub tree_draw : ItemId → List WeightedItem → ℕ → ℕ → ℕ → ℕ → ℕ
tree_draw id items x r from h =
    hash4 x (label from h) r (word id) * weight_within items from (2 ^ h) / 2 ^ 32

-- the place in the range of 2^h places at which its halving ends: on the left where the draw is
-- below the left half's weight, else on the right
abbrev pub place_within : ItemId → List WeightedItem → ℕ → ℕ → ℕ → ℕ → ℕ
place_within id items x r from zero = from
place_within id items x r from (suc h) =
    if nat_lt (tree_draw id items x r from (suc h)) (weight_within items from (2 ^ h)) then place_within id items x r from h
    else place_within id items x r (from + 2 ^ h) h

-- the item at that place, or the last item where it lies past the end
unfoldable pub tree_pick : ItemId → List WeightedItem → ℕ → ℕ → ItemId
tree_pick id items x r =
    item_at items (min (place_within id items x r 0 (height_of (length items))) (length items - 1))

-- ---- straw2: the item that arrives first

-- later than any item that weighs something
abbrev pub never : ℕ
never = 2 ^ 48 + 1

-- when an item of a weight arrives by its draw: the sooner, the more it weighs
unfoldable pub time_of : ℕ → ℕ → ℕ
time_of draw weight = if weight == 0 then never else delay draw / weight

-- when an item arrives; its draw is the lower 16 bits of a hash, in which the bucket's id isn't
abbrev pub arrival : ℕ → ℕ → WeightedItem → ℕ
arrival x r item = time_of (hash3 x (word item.0) r % 65536) item.1.0

-- whether an item arrives no later than any of a bucket's
abbrev pub is_soonest : List WeightedItem → ℕ → ℕ → WeightedItem → Bool
is_soonest items x r item = list_all (λ other. nat_le (arrival x r item) (arrival x r other)) items

-- the first place whose item arrives no later than any; where none weighs anything, all arrive at
-- once
unfoldable pub straw2_place : List WeightedItem → ℕ → ℕ → ℕ
straw2_place items x r = position_or_len (is_soonest items x r) items

unfoldable pub straw2_pick : List WeightedItem → ℕ → ℕ → ItemId
straw2_pick items x r = item_at items (straw2_place items x r)
