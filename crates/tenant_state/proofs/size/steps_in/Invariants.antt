use Rattle.std.proofs.Common.{◌≡◌, ◌-◌, ◌^◌, min, take}
use Rattle.tenant_state.specs.Size as spec
use Rattle.tenant_state.proofs.size.steps_in.Given as goal

-- the steps so far
abbrev pub invariant-loop-rule : goal.invariant-loop-rule
invariant-loop-rule l = l.steps ≡ min (spec.steps_in (take l.rule-index l.rules)) (2 ^ 64 - 1)
