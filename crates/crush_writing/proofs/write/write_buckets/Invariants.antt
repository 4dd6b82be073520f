use Rattle.std.proofs.Common.{◌≡◌, ◌++◌, take}
use Rattle.std.specs.List.{flat_map}
use Rattle.crush_writing.specs.Canonical.{bucket_lines}
use Rattle.crush_writing.proofs.write.write_buckets.Given as goal

abbrev pub invariant-loop-bucket : goal.invariant-loop-bucket
invariant-loop-bucket l = l.out.items ≡ l.initial.out.items ++ flat_map (bucket_lines l.names) (take l.bucket-index l.buckets)
