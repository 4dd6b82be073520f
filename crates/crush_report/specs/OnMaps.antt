-- What is counted of a pool on a map, by the steps of the pool's rule.
use Rattle.std.specs.Prelude.{ℕ, Bool, List}
use Rattle.crush_bucket.specs.Tables.{tables_of}
use Rattle.crush_choose.specs.Marks.{Slot}
use Rattle.crush_choose.specs.Weights.{weights_of}
use Rattle.crush_choose.specs.Rules.{rule_answer}
use Rattle.crush_pool.specs.Placers.{PoolOnMap, steps_of}
use Rattle.crush_pool.specs.Pools.{seed_of}
use Rattle.crush_pool.specs.States.{flags_of, reweights}
use Rattle.crush_report.specs.Impact.{touched, touches, trace_of}
use Rattle.crush_report.specs.Reports.{up_list}

-- the up list of a group
abbrev pub up_on : PoolOnMap → ℕ → List Slot
up_on p = up_list (tables_of p.map) (weights_of (reweights p.states)) (flags_of p.states) (steps_of p) p.pool p.pairs

-- what the rule answers for a group
abbrev pub answer_on : PoolOnMap → ℕ → List Slot
answer_on p group = rule_answer (tables_of p.map) (weights_of (reweights p.states)) (steps_of p) (seed_of p.pool group) p.pool.size

-- the trace of a group
abbrev pub trace_on : PoolOnMap → ℕ → List ℕ
trace_on p = trace_of (tables_of p.map) (weights_of (reweights p.states)) (steps_of p) p.pool

-- whether the trace of a group has the device, or a pair of the group leads to it
abbrev pub touches_on : PoolOnMap → ℕ → ℕ → Bool
touches_on p = touches (tables_of p.map) (weights_of (reweights p.states)) (steps_of p) p.pool p.pairs

-- of some groups, those that the device can touch
abbrev pub touched_on : PoolOnMap → ℕ → List ℕ → List ℕ
touched_on p = touched (tables_of p.map) (weights_of (reweights p.states)) (steps_of p) p.pool p.pairs
