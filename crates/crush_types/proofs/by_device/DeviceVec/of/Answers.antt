use Rattle.std.proofs.Common.{◌≡◌, ◌∙◌, ap, drop, arith}
use Rattle.crush_types.specs.DeviceValues.{value_at, values_of}
use Rattle.crush_types.proofs.DeviceValues.{value-values_of, pair_put}
use Rattle.crush_types.proofs.by_device.DeviceVec.of.Goals as goal

pub loop-place-preserved : goal.loop-place-preserved
loop-place-preserved g c =
    pair_put c.args.rest c.args.given.now c.loop-place.table c.set.new.self c.loop-place.place c.index-given-place.result (omega (arith, c.loop-place-test.true)) c.loop-place.auto.place c.loop-place.invariant c.index-given-place.is (c.in_ok-set.ensures {u = tt}).ok

pub returns-clause-each : goal.returns-clause-each
returns-clause-each g c =
    let done : c.loop-place.place ≡ 0 = omega (arith, c.loop-place-test.false) in
    let all : c.loop-place.table ≡ values_of c.args.rest c.args.given.now = c.loop-place.invariant ∙ ap (λ k. values_of c.args.rest (drop k c.args.given.now)) done in
    λ id. ap (λ t. value_at t id) all ∙ value-values_of c.args.rest c.args.given.now id
