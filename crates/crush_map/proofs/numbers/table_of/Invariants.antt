use Rattle.std.proofs.Common.{take}
use Rattle.crush_map.specs.Private.Tables.{IsTableOf}
use Rattle.crush_map.proofs.numbers.table_of.Given as goal

abbrev pub invariant-loop-number : goal.invariant-loop-number
invariant-loop-number l = IsTableOf (take l.number-index l.numbers) l.table.items
