use Rattle.std.proofs.Common.{◌≡◌, drop}
use Rattle.crush_map.specs.Faults.{items_fault}
use Rattle.crush_map.proofs.known.SymbolTable.items_fault_behind.Given as goal

abbrev pub invariant-loop-item : goal.invariant-loop-item
invariant-loop-item l = items_fault l.self l.before (drop l.item-index l.items) ≡ items_fault l.self l.fn.before l.items
