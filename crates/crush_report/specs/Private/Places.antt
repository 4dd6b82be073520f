-- What is stored of the places of a pool's groups. It may be of no place.
use Rattle.std.specs.Prelude.{◌≡◌, ◌<◌, ◌≤◌, ◌+◌, ℕ, List, false, length, slice_index_or, slice_range}
use Rattle.crush_map.specs.Faults.{has_number}
use Rattle.crush_choose.specs.Marks.{Slot}
use Rattle.crush_choose.specs.declared.limits.TheConstants.{SIZE_LIMIT}
use Rattle.crush_pool.specs.Placers.{PoolOnMap}
use Rattle.crush_report.specs.OnMaps.{answer_on, trace_on}
use Rattle.crush_report.specs.declared.answers.Answers.{Answers}
use Rattle.crush_report.specs.declared.answers.TraceMarks.{TraceMarks}

-- the slots from a start to an end
pub record IsPart (slots : List Slot) (start end : ℕ) (part : List Slot) : Type 0 where
  pub ordered : start ≤ end
  pub within : end ≤ length slots
  pub same : slice_range slots start end ≡ part

-- from each start to the next one stands what the rule answers for a place, in order of the places
abbrev pub AreInOrder : PoolOnMap → List Slot → List ℕ → Type 0
AreInOrder p slots starts =
    (place : ℕ) → place + 1 < length starts → IsPart slots (slice_index_or starts place 0) (slice_index_or starts (place + 1) 0) (answer_on p place)

-- what is stored are answers of the pool's rule
pub record AreAnswers (p : PoolOnMap) (a : Answers) : Type 0 where
  pub some : 0 < p.pool.pgp_num
  pub size : p.pool.size ≤ SIZE_LIMIT
  pub each : AreInOrder p a.slots.items a.starts.items

-- what is stored is whether the device is in traces
pub record AreTraced (p : PoolOnMap) (device : ℕ) (t : TraceMarks) : Type 0 where
  pub some : 0 < p.pool.pgp_num
  pub each : (place : ℕ) → place < length t.found.items → slice_index_or t.found.items place false ≡ has_number (trace_on p place) device
