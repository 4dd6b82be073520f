use Rattle.std.proofs.Common.{◌≡◌, ◌∙◌, ap, drop, true, false, arith, List, Bool}
use Rattle.crush_map.specs.crush_types.specs.DeviceValues.{values_of}
use Rattle.crush_pool.specs.States.{up_at, ups}
use Rattle.crush_pool.proofs.Flags.{all_is, flag_of, none_yet, rest_is, state_put}
use Rattle.crush_pool.proofs.states.DeviceStates.build.Goals as goal

-- in the end each state is in the table
all_put : (c : goal.After-loop-place) → c.loop-place.by_device ≡ values_of true (ups c.args.states.now)
all_put c =
    let done : c.loop-place.place ≡ 0 = omega (arith, c.loop-place-test.false) in
    c.loop-place.invariant ∙ ap (λ k. values_of true (drop k (ups c.args.states.now))) done

pub loop-place-init : goal.loop-place-init
loop-place-init c = none_yet c.args.states.now c.in_ok-by_device.by_device (c.in_ok-by_device.ensures {u = tt}).all

pub loop-place-preserved : goal.loop-place-preserved
loop-place-preserved c =
    state_put c.args.states.now c.loop-place.by_device c.set.new.self c.loop-place.place (record { device = 0; reweight = 0; up = false }) (omega (arith, c.loop-place-test.true)) c.loop-place.auto.place c.loop-place.invariant (c.in_ok-set.ensures {u = tt}).ok

pub invariant_of-result : goal.invariant_of-result
invariant_of-result c = rest_is c.args.states.now c.loop-place.by_device (all_put c)

pub returns-clause-all : goal.returns-clause-all
returns-clause-all c = all_is c.args.states.now c.loop-place.by_device (all_put c)

pub returns-clause-each : goal.returns-clause-each
returns-clause-each c id =
    ap (λ (flags : List Bool). up_at flags id) (all_is c.args.states.now c.loop-place.by_device (all_put c)) ∙ flag_of c.args.states.now id
