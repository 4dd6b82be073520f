use Rattle.std.proofs.Common.{◌≡◌, map, take}
use Rattle.crush_bucket.specs.Tables.{typed_bucket}
use Rattle.crush_bucket.proofs.tables.rows_of.Given as goal

abbrev pub invariant-loop-bucket : goal.invariant-loop-bucket
invariant-loop-bucket l = l.rows.items ≡ map typed_bucket (take l.bucket-index l.buckets)
