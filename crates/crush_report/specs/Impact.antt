-- Which groups of a pool a device can touch: those in whose trace it is, and those of which a pair
-- leads to it.
use Rattle.std.specs.Prelude.{ℕ, ◌||◌, Bool, List, filter}
use Rattle.crush_map.specs.Faults.{has_number}
use Rattle.crush_map.specs.declared.draft.Step.{Step}
use Rattle.crush_bucket.specs.Tables.{TablesView}
use Rattle.crush_choose.specs.Trace.{rule_trace}
use Rattle.crush_pool.specs.Exceptions.{targets_of}
use Rattle.crush_pool.specs.Pools.{seed_of}
use Rattle.crush_pool.specs.declared.exceptions.Pair.{Pair}
use Rattle.crush_pool.specs.declared.pool.PoolParts.{PoolParts}

-- the trace of a group: that of the run of the pool's rule for it
abbrev pub trace_of : TablesView → List ℕ → List Step → PoolParts → ℕ → List ℕ
trace_of t w steps p group = rule_trace t w steps (seed_of p group) p.size

-- whether the trace of a group has the device, or a pair of the group leads to it
abbrev pub touches : TablesView → List ℕ → List Step → PoolParts → List Pair → ℕ → ℕ → Bool
touches t w steps p pairs device group = has_number (trace_of t w steps p group) device || has_number (targets_of pairs group) device

-- the groups that the device can touch
abbrev pub touched : TablesView → List ℕ → List Step → PoolParts → List Pair → ℕ → List ℕ → List ℕ
touched t w steps p pairs device groups = filter (touches t w steps p pairs device) groups
