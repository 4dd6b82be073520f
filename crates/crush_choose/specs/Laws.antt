-- The statement of the law of walks.
use Rattle.std.specs.Prelude.{ℕ, ◌==◌, if◌then◌else◌}
use Rattle.crush_bucket.specs.Tables.{TablesView, pick_at, size_at, bucket_numbered}
use Rattle.crush_choose.specs.declared.walk.WalkEnd.{WalkEnd}
use Rattle.crush_choose.specs.declared.walk.WalkEnd.TheVariants.{Empty}
use Rattle.crush_choose.specs.Reach.{reach, at_item}

-- one pick, followed by the walk from the picked item
abbrev pub reach_after_pick : TablesView → ℕ → (ℕ → ℕ) → ℕ → ℕ → WalkEnd
reach_after_pick t x rr wanted bucket =
    if size_at t bucket == 0 then Empty
    else (let item = pick_at t bucket x (rr bucket) in at_item t wanted (reach t x rr wanted) item (rr bucket) (bucket_numbered t item))
