-- Where a walk down from a bucket ends: the descent inside `crush_choose_firstn` and
-- `crush_choose_indep` of Ceph's `mapper.c`.
--
-- There it is a loop inside the retries; here it is a function of the bucket and of the attempt at
-- each bucket.
use Rattle.std.specs.Prelude.{ℕ, zero, suc, ◌+◌, ◌*◌, ◌%◌, ◌&&◌, ◌==◌, Option, Some, None, if◌then◌else◌}
use Rattle.crush_map.specs.crush_types.specs.declared.ItemId.{ItemId}
use Rattle.crush_map.specs.crush_types.specs.Kinds.{is_uniform}
use Rattle.crush_bucket.specs.Tables.{TablesView, pick_at, type_at, kind_at, size_at, bucket_numbered}
use Rattle.crush_choose.specs.declared.walk.WalkEnd.{WalkEnd}
use Rattle.crush_choose.specs.declared.walk.WalkEnd.TheVariants.{Empty, Wrong, Found}

-- the walk after an item was picked by attempt r: it ends at a device, whose type is 0, and at a
-- bucket of the required type; from another bucket it goes on by `down`
abbrev pub at_item : TablesView → ℕ → (ℕ → WalkEnd) → ItemId → ℕ → Option ℕ → WalkEnd
at_item t wanted down item r None = if 0 == wanted then Found item r else Wrong
at_item t wanted down item r (Some bucket) = if type_at t bucket == wanted then Found item r else down bucket

-- the walk with at most n picks, Empty if it needs more; rr is the attempt at each bucket
abbrev pub reach_below : TablesView → ℕ → (ℕ → ℕ) → ℕ → ℕ → ℕ → WalkEnd
reach_below t x rr wanted zero bucket = Empty
reach_below t x rr wanted (suc n) bucket =
    if size_at t bucket == 0 then Empty
    else (let item = pick_at t bucket x (rr bucket) in
    at_item t wanted (reach_below t x rr wanted n) item (rr bucket) (bucket_numbered t item))

-- the walk from a bucket: each bucket on the way has a smaller number than the one before, so its
-- number and one more picks are enough
unfoldable pub reach : TablesView → ℕ → (ℕ → ℕ) → ℕ → ℕ → WalkEnd
reach t x rr wanted bucket = reach_below t x rr wanted (suc bucket) bucket

-- what round f of choose indep adds to the attempt at a bucket: numrep * f, or (numrep + 1) * f at
-- a uniform bucket whose size is a multiple of numrep
abbrev pub step : TablesView → ℕ → ℕ → ℕ → ℕ
step t numrep f bucket =
    if is_uniform (kind_at t bucket) && (size_at t bucket % numrep == 0) then (numrep + 1) * f else numrep * f
