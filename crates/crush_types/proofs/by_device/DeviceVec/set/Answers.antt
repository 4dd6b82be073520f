use Rattle.std.proofs.Common.{◌<◌, ◌≤◌, ◌∙◌, ap, length, arith}
use Rattle.crush_types.specs.declared.limits.TheConstants.{ID_COUNT}
use Rattle.crush_types.specs.DeviceValues.{with_value}
use Rattle.crush_types.proofs.DeviceValues.{is_set, is_past, pair_before}
use Rattle.crush_types.proofs.by_device.DeviceVec.set.Goals as goal

pub returns-in_ok-reach-clause-ok : goal.returns-in_ok-reach-clause-ok
returns-in_ok-reach-clause-ok g c =
    let within : c.args.id < length c.reach.new.table.items = omega (arith, c.in_ok-reach.ensures.least) in
    rw (← c.self.view_is) (is_set c.self.inside.rest c.self.inside.table.items c.reach.new.table.items c.args.id c.args.value c.reach.ensures.same within)

pub returns-in_ok-reach-clause-first : goal.returns-in_ok-reach-clause-first
returns-in_ok-reach-clause-first g c =
    let within : c.args.id < length c.reach.new.table.items = omega (arith, c.in_ok-reach.ensures.least) in
    λ given is. returns-in_ok-reach-clause-ok g c ∙ (ap (λ t. with_value t c.args.id c.args.value) is ∙ pair_before c.args.self.now.rest given c.args.id c.args.value)

pub returns-else-place-lt-ID_COUNT-clause-ok : goal.returns-else-place-lt-ID_COUNT-clause-ok
returns-else-place-lt-ID_COUNT-clause-ok g c =
    let past : ID_COUNT ≤ c.args.id = omega (arith, c.if-place-lt-ID_COUNT.false) in
    rw (← c.self.view_is) (is_past c.self.inside.rest c.self.inside.table.items c.args.id c.args.value c.self.invariant past)

pub returns-else-place-lt-ID_COUNT-clause-first : goal.returns-else-place-lt-ID_COUNT-clause-first
returns-else-place-lt-ID_COUNT-clause-first g c =
    λ given is. returns-else-place-lt-ID_COUNT-clause-ok g c ∙ (ap (λ t. with_value t c.args.id c.args.value) is ∙ pair_before c.args.self.now.rest given c.args.id c.args.value)
