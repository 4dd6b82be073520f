use Rattle.std.proofs.Common.{arith}
use Rattle.crush_bucket.proofs.tables.rows_of.Goals as goal

pub build-requires : goal.build-requires
build-requires c = rw c.bucket-item.is (c.requires c.loop-bucket.bucket-index c.bucket-item.result (omega arith))
