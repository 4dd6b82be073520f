-- The answer of choose firstn (`crush_choose_firstn` of Ceph's `mapper.c`).
--
-- There nested loops retry; here the answer is a condition on a finished list: each rep has the
-- outcome of its first try that doesn't fail.
use Rattle.std.specs.Prelude.{◌≡◌, ℕ, ◌+◌, ◌-◌, ◌/◌, ◌^◌, ◌<◌, ◌≤◌, ◌&&◌, List, length, take, Bool, false, not, nat_lt, ◌==◌, if◌then◌else◌, Option, Some, None, option_map, slice_index_or}
use Rattle.std.specs.Bool.{then_some}
use Rattle.std.specs.List.{list_any}
use Rattle.std.specs.Ordering.{int_eq}
use Rattle.crush_map.specs.crush_types.specs.declared.ItemId.{ItemId}
use Rattle.crush_bucket.specs.Tables.{TablesView, bucket_numbered}
use Rattle.crush_choose.specs.declared.walk.WalkEnd.{WalkEnd}
use Rattle.crush_choose.specs.declared.walk.WalkEnd.TheVariants.{Empty, Wrong, Found}
use Rattle.crush_choose.specs.declared.firstn.FirstnCall.{FirstnCall}
use Rattle.crush_choose.specs.declared.mark.Mark.{Mark}
use Rattle.crush_choose.specs.declared.mark.Mark.TheVariants.{Skipped}
use Rattle.crush_choose.specs.Weights.{is_device_in}
use Rattle.crush_choose.specs.Reach.{reach}
use Rattle.crush_choose.specs.Least.{least}
use Rattle.crush_choose.specs.Growing.{grown}
use Rattle.crush_choose.specs.Marks.{Marks, Slot, placed_by, items_of, leaves_of}
use Rattle.crush_map.specs.declared.limits.TheConstants.{TRIES_LIMIT, COUNT_LIMIT, VARY_R_LIMIT}
use Rattle.crush_choose.specs.declared.limits.TheConstants.{SIZE_LIMIT}

-- a call in range; room is `out_size` of `mapper.c`, and 0 leaf tries mean that no leaf is required
-- (`recurse_to_leaf` 0)
pub record IsFirstnCall (t : TablesView) (c : FirstnCall) : Type 0 where
  pub bucket : c.bucket < length t.buckets
  pub some_reps : 1 ≤ c.numrep
  pub few_reps : c.numrep ≤ COUNT_LIMIT
  pub room : c.room ≤ SIZE_LIMIT
  pub some_tries : 1 ≤ c.tries
  pub few_tries : c.tries ≤ TRIES_LIMIT
  pub leaf_tries : c.leaf_tries ≤ TRIES_LIMIT
  pub vary_r : c.vary_r ≤ VARY_R_LIMIT
  pub stable : c.stable ≤ 1

abbrev pub slot_has : ItemId → Slot → Bool
slot_has item None = false
slot_has item (Some other) = int_eq other.0 item.0

-- whether the item is in the list
abbrev pub has : List Slot → ItemId → Bool
has slots item = list_any (slot_has item) slots

-- ---- the leaf of an item

-- the device that a walk found, if it is in and isn't a leaf of a smaller rep
abbrev pub new_leaf : List ℕ → FirstnCall → List Slot → WalkEnd → Option ItemId
new_leaf w c leaves (Found item r) = then_some (is_device_in w c.x item && not (has leaves item)) item
new_leaf w c leaves Empty = None
new_leaf w c leaves Wrong = None

-- the leaf that attempt r finds below a bucket, if it finds one
unfoldable pub leaf_by : TablesView → List ℕ → FirstnCall → List Slot → ℕ → ℕ → Option ItemId
leaf_by t w c leaves bucket r = new_leaf w c leaves (reach t c.x (λ b. r) 0 bucket)

-- the first part of an attempt for a leaf: 0 if the call is stable, else the number of items so far
-- (`outpos`)
abbrev pub leaf_base : FirstnCall → ℕ → ℕ
leaf_base c count = if c.stable == 1 then 0 else count

-- the second part (`sub_r`), from the attempt r that found the bucket: 0 if vary_r is 0, else r
-- divided by 2^(vary_r - 1)
abbrev pub leaf_sub : FirstnCall → ℕ → ℕ
leaf_sub c r = if c.vary_r == 0 then 0 else r / 2 ^ (c.vary_r - 1)

-- the first attempt for a leaf below a bucket
abbrev pub leaf_start : FirstnCall → ℕ → ℕ → ℕ
leaf_start c count r = leaf_base c count + leaf_sub c r

-- the leaf of the first attempt that finds one
unfoldable pub leaf_below : TablesView → List ℕ → FirstnCall → List Slot → ℕ → ℕ → Option ItemId
leaf_below t w c leaves bucket start = least (λ g. leaf_by t w c leaves bucket (start + g)) c.leaf_tries

-- the leaf of an item: a device that is in is its own leaf; a bucket too, if no leaf is required,
-- else it is a leaf below the bucket
abbrev pub leaf_of : TablesView → List ℕ → FirstnCall → List Slot → ℕ → ItemId → ℕ → Option ℕ → Option ItemId
leaf_of t w c leaves count item r None = then_some (is_device_in w c.x item) item
leaf_of t w c leaves count item r (Some bucket) =
    if c.leaf_tries == 0 then Some item else leaf_below t w c leaves bucket (leaf_start c count r)

-- ---- a try

-- the outcome of try f, by where its walk ended: an item that wasn't chosen yet is placed if it has
-- a leaf
abbrev pub firstn_outcome : TablesView → List ℕ → FirstnCall → List Slot → List Slot → ℕ → WalkEnd → Option Mark
firstn_outcome t w c items leaves f (Found item r) =
    if has items item then None
    else option_map (placed_by f item) (leaf_of t w c leaves (length items) item r (bucket_numbered t item))
firstn_outcome t w c items leaves f Empty = None
firstn_outcome t w c items leaves f Wrong = Some Skipped

-- the outcome of try f of a rep, given what smaller reps chose; none if it fails
unfoldable pub firstn_try : TablesView → List ℕ → FirstnCall → List Slot → List Slot → ℕ → ℕ → Option Mark
firstn_try t w c items leaves rep f = firstn_outcome t w c items leaves f (reach t c.x (λ b. rep + f) c.wanted c.bucket)

-- the outcome of a rep: that of its first try that doesn't fail
unfoldable pub decided : TablesView → List ℕ → FirstnCall → List Slot → List Slot → ℕ → Option Mark
decided t w c items leaves rep = least (firstn_try t w c items leaves rep) c.tries

-- ---- the answer

-- the mark of a rep, given the items and leaves of smaller reps; none if there is no room
abbrev pub mark_beside : TablesView → List ℕ → FirstnCall → List Slot → List Slot → ℕ → Option Mark
mark_beside t w c items leaves rep = if nat_lt (length items) c.room then decided t w c items leaves rep else None

abbrev pub mark_of : TablesView → List ℕ → FirstnCall → Marks → ℕ → Option Mark
mark_of t w c before rep = mark_beside t w c (items_of before) (leaves_of before) rep

-- the marks are an answer: each rep has its mark, given the marks of smaller reps
pub record IsFirstnAnswer (t : TablesView) (w : List ℕ) (c : FirstnCall) (marks : Marks) : Type 0 where
  pub one_each : length marks ≡ c.numrep
  pub each : (rep : ℕ) → rep < c.numrep → slice_index_or marks rep None ≡ mark_of t w c (take rep marks) rep

-- the one answer
unfoldable pub firstn : TablesView → List ℕ → FirstnCall → Marks
firstn t w c = grown (mark_of t w c) c.numrep
