-- The way down a tree's nodes, by their weights.
use Rattle.std.specs.Prelude.{ℕ, zero, suc, ◌+◌, ◌-◌, ◌*◌, ◌/◌, ◌^◌, Bool, nat_lt, if◌then◌else◌, List, [], ◌∷◌, slice_index}
use Rattle.crush_hash.specs.Hash.{hash4}
use Rattle.crush_map.specs.crush_types.specs.declared.ItemId.{ItemId}
use Rattle.crush_bucket.specs.Bucket.{word}

-- whether a node's hash leads to its left child
abbrev pub is_left : List ℕ → ℕ → ℕ → ℕ → Bool
is_left nodes hash node half = nat_lt (hash * slice_index nodes node / 2 ^ 32) (slice_index nodes (node - half))

-- the child to which it leads
abbrev pub child : List ℕ → ℕ → ℕ → ℕ → ℕ
child nodes hash node half = if is_left nodes hash node half then node - half else node + half

-- its lane among the labels below
abbrev pub lane_below : List ℕ → ℕ → ℕ → ℕ → ℕ → ℕ
lane_below nodes hash node half lane = if is_left nodes hash node half then 2 * lane + 1 else 2 * lane + 2

-- the labels of a node and of the nodes one and two levels below it
abbrev pub labels : ℕ → ℕ → List ℕ
labels node quarter =
    let left = node - 2 * quarter in
    let right = node + 2 * quarter in
    node ∷ left ∷ right ∷ (left - quarter) ∷ (left + quarter) ∷ (right - quarter) ∷ (right + quarter) ∷ 0 ∷ []

-- the node k levels below a node of a level
abbrev pub down_by : ItemId → List ℕ → ℕ → ℕ → ℕ → ℕ → ℕ → ℕ
down_by id nodes x r zero level node = node
down_by id nodes x r (suc k) level node =
    down_by id nodes x r k (level - 1) (child nodes (hash4 x node r (word id)) node (2 ^ (level - 1)))
