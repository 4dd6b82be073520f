use Rattle.std.proofs.Common.{◌≡◌, take}
use Rattle.crush_pool.proofs.exceptions.ExceptedSlots.new.Given as goal

abbrev pub invariant-loop-slot : goal.invariant-loop-slot
invariant-loop-slot l = l.slots.items ≡ take l.slot-index l.raw
