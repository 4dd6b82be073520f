use Rattle.std.proofs.Common.{◌≡◌, take, drop, fold}
use Rattle.crush_map.specs.declared.fault.Element.TheVariants.{Buckets}
use Rattle.crush_map.specs.Faults.{first_in, bucket_fault, with_bucket}
use Rattle.crush_map.proofs.judge.judge_buckets.Given as goal

abbrev pub invariant-loop-index : goal.invariant-loop-index
invariant-loop-index l = record {
  fault : first_in Buckets bucket_fault with_bucket l.index l.known (drop l.index l.buckets) ≡ first_in Buckets bucket_fault with_bucket 0 l.fn.known l.buckets;
  known : l.known ≡ fold with_bucket l.fn.known (take l.index l.buckets);
}
