use Rattle.std.proofs.Common.{refl}
use Rattle.crush_bucket.specs.Tables.{tables_of}
use Rattle.crush_choose.specs.Weights.{weights_of}
use Rattle.crush_pool.specs.Placers.{steps_of}
use Rattle.crush_pool.specs.Pools.{seed_of}
use Rattle.crush_pool.specs.States.{reweights}
use Rattle.crush_report.specs.OnMaps.{trace_on}
use Rattle.crush_report.proofs.answers.is_traced.Goals as goal

pub returns-clause-traced : goal.returns-clause-traced
returns-clause-traced c =
    let p = c.args.placer.now in
    let trace = trace_on p c.args.group in
    c.touches.ensures.touched trace ((c.traces_ascend.ensures (tables_of p.map) (weights_of (reweights p.states)) (steps_of p) (seed_of p.pool c.args.group) p.pool.size trace).1 refl)
