-- Whether any try can succeed, whatever the buckets pick of the items that they can pick: where it
-- is false for a call, the call places nothing more.
use Rattle.std.specs.Prelude.{◌≡◌, ℕ, zero, suc, ◌<◌, ◌&&◌, ◌==◌, nat_lt, Bool, true, false, not, if◌then◌else◌, List, [], length, slice_index_or, Option, Some, None}
use Rattle.std.specs.List.{list_any}
use Rattle.crush_map.specs.crush_types.specs.declared.ItemId.{ItemId}
use Rattle.crush_map.specs.declared.limits.TheConstants.{BUCKET_LIMIT}
use Rattle.crush_bucket.specs.Pickable.{pickable}
use Rattle.crush_bucket.specs.Tables.{TablesView, bucket_at, type_at, bucket_numbered}
use Rattle.crush_choose.specs.declared.firstn.FirstnCall.{FirstnCall}
use Rattle.crush_choose.specs.declared.indep.IndepCall.{IndepCall}
use Rattle.crush_choose.specs.Weights.{is_device_in}
use Rattle.crush_choose.specs.Marks.{Slot}
use Rattle.crush_choose.specs.Firstn.{has}

-- ---- where walks can end

-- whether a walk that picked the item can end at an item of the required type that passes: there,
-- or from another bucket by `down`; devices have type 0
abbrev pub can_end_at : TablesView → ℕ → (ItemId → Bool) → (ℕ → Bool) → ItemId → Option ℕ → Bool
can_end_at t wanted passes down item None = (wanted == 0) && passes item
can_end_at t wanted passes down item (Some bucket) = if type_at t bucket == wanted then passes item else down bucket

-- whether a walk of at most n picks can
abbrev pub can_reach_below : TablesView → ℕ → (ItemId → Bool) → ℕ → ℕ → Bool
can_reach_below t wanted passes zero bucket = false
can_reach_below t wanted passes (suc n) bucket =
    list_any (λ e. can_end_at t wanted passes (can_reach_below t wanted passes n) e.0 (bucket_numbered t e.0)) (pickable (bucket_at t bucket))

-- whether below the bucket, through items that can be picked and buckets that aren't of the
-- required type, there is an item of the required type that passes
unfoldable pub can_reach : TablesView → ℕ → (ItemId → Bool) → ℕ → Bool
can_reach t wanted passes bucket = can_reach_below t wanted passes (suc bucket) bucket

-- ---- what can be placed

-- whether the item has a leaf: a device that is in, or a bucket that has one below it
abbrev pub has_leaf : List ℕ → ℕ → (ℕ → Bool) → ItemId → Option ℕ → Bool
has_leaf w x leafy item None = is_device_in w x item
has_leaf w x leafy item (Some bucket) = leafy bucket

-- whether the item has a leaf and isn't chosen already
abbrev pub can_be_placed : TablesView → List ℕ → ℕ → List Slot → (ℕ → Bool) → ItemId → Bool
can_be_placed t w x chosen leafy item = has_leaf w x leafy item (bucket_numbered t item) && not (has chosen item)

-- every bucket, if no leaf is required
abbrev pub any_bucket : ℕ → Bool
any_bucket bucket = true

-- whether below a bucket there is a device that is in and isn't a leaf already
abbrev pub can_have_leaf : TablesView → List ℕ → ℕ → List Slot → ℕ → Bool
can_have_leaf t w x leaves bucket = can_reach t 0 (can_be_placed t w x leaves any_bucket) bucket

-- the buckets that can be placed: if a leaf is required, those that can have one below them
abbrev pub leafy : TablesView → List ℕ → ℕ → Bool → List Slot → ℕ → Bool
leafy t w x leaf leaves bucket = if leaf then can_have_leaf t w x leaves bucket else any_bucket bucket

-- whether below a bucket there is an item that can be placed
unfoldable pub can_choose : TablesView → List ℕ → ℕ → ℕ → List Slot → Bool → List Slot → ℕ → Bool
can_choose t w x wanted chosen leaf leaves from = can_reach t wanted (can_be_placed t w x chosen (leafy t w x leaf leaves)) from

-- whether a try of any rep can place an item, given the items and leaves so far
abbrev pub firstn_can_place : TablesView → List ℕ → FirstnCall → List Slot → List Slot → Bool
firstn_can_place t w c items leaves = can_choose t w c.x c.wanted items (nat_lt 0 c.leaf_tries) leaves c.bucket

-- whether a try of any position can, given the items so far; leaves of different positions aren't
-- compared
abbrev pub indep_can_place : TablesView → List ℕ → IndepCall → List Slot → Bool
indep_can_place t w c items = can_choose t w c.x c.wanted items (nat_lt 0 c.leaf_tries) [] c.bucket

-- ---- marks of buckets

-- whether the bucket is marked; one that the list lacks isn't
abbrev pub marked : List Bool → ℕ → Bool
marked marks bucket = slice_index_or marks bucket false

-- of the first n buckets those are marked from which a walk can end at an item that passes
pub record IsMarked (t : TablesView) (wanted : ℕ) (passes : ItemId → Bool) (n : ℕ) (marks : List Bool) : Type 0 where
  pub long : length marks ≡ BUCKET_LIMIT
  pub each : (bucket : ℕ) → bucket < n → marked marks bucket ≡ can_reach t wanted passes bucket
