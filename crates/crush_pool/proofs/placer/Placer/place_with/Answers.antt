use Rattle.std.proofs.Common.{◌∙◌}
use Rattle.crush_pool.proofs.Placed.{placed_by}
use Rattle.crush_pool.proofs.placer.Placer.place_with.Goals as goal

pub returns-clause-placed : goal.returns-clause-placed
returns-clause-placed c =
    let inside = c.self.inside in
    let made = c.in_ok-placement.ensures in
    rw (← c.self.view_is)
    (placed_by inside.map.now inside.states.now inside.placing.pool.now inside.placing.exceptions.now inside.placing.rule.now c.args.group c.items.result.now c.in_ok-placement.placement c.self.invariant.rule
    (c.items.ensures.value ∙ (rw (← c.self.view_is) at c.run.ensures.items)) made.seed made.raw (rw (c.self.invariant.tables, c.self.invariant.weights, c.self.invariant.flags) at made.up) made.primary)
