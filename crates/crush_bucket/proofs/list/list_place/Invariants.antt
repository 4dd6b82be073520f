use Rattle.std.proofs.Common.{◌≡◌, ◌+◌, ◌*◌, ◌%◌, length}
use Rattle.crush_bucket.specs.Kinds.{greatest, takes}
use Rattle.crush_bucket.proofs.list.list_place.Given as goal

abbrev pub invariant-loop-block : goal.invariant-loop-block
invariant-loop-block l =
    greatest (takes l.id l.items l.x l.r) (length l.items) ≡ greatest (takes l.id l.items l.x l.r) (length l.items % 8 + 8 * l.block)
