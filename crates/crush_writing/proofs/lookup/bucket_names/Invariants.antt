use Rattle.std.proofs.Common.{◌≡◌, ℤ, [], drop}
use Rattle.std.specs.BTreeMap.{get}
use Rattle.std.specs.Option.{option_map_or}
use Rattle.std.specs.Ordering.{int_cmp}
use Rattle.crush_writing.specs.Canonical.{bucket_name}
use Rattle.crush_writing.proofs.lookup.bucket_names.Given as goal

abbrev pub invariant-loop-place : goal.invariant-loop-place
invariant-loop-place l = (id : ℤ) → option_map_or (λ name. name.now) (get int_cmp l.names id) [] ≡ bucket_name (drop l.place l.buckets) id
