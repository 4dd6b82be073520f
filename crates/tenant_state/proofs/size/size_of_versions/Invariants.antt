use Rattle.std.proofs.Common.{◌≡◌, ◌-◌, ◌^◌, map, min, take}
use Rattle.std.specs.List.{sum_by}
use Rattle.tenant_state.specs.Size.{version_size}
use Rattle.tenant_state.proofs.size.size_of_versions.Given as goal

-- the sum of the versions so far
abbrev pub invariant-loop-version : goal.invariant-loop-version
invariant-loop-version l = l.total ≡ min (sum_by version_size (map (λ v. v.value) (take l.version-index l.versions))) (2 ^ 64 - 1)
