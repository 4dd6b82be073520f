use Rattle.std.proofs.Common.{◌≡◌, ℕ, [], drop}
use Rattle.std.specs.BTreeMap.{get}
use Rattle.std.specs.Option.{option_map_or}
use Rattle.std.specs.Ordering.{nat_cmp}
use Rattle.crush_writing.specs.Canonical.{device_name}
use Rattle.crush_writing.proofs.lookup.device_names.Given as goal

abbrev pub invariant-loop-place : goal.invariant-loop-place
invariant-loop-place l = (id : ℕ) → option_map_or (λ name. name.now) (get nat_cmp l.names id) [] ≡ device_name (drop l.place l.devices) id
