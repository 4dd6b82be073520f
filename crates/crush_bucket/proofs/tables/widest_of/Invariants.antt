use Rattle.std.proofs.Common.{take}
use Rattle.crush_bucket.specs.Private.Ahead.{IsWidest}
use Rattle.crush_bucket.proofs.tables.widest_of.Given as goal

abbrev pub invariant-loop-row : goal.invariant-loop-row
invariant-loop-row l = IsWidest (take l.row-index l.rows) l.most
