use Rattle.std.proofs.Common.{◌≡◌, ◌≤◌, ◌+◌, ◌++◌, drop, vec_len, vec_capacity}
use Rattle.crush_choose.specs.Rules.{devices_of}
use Rattle.crush_choose.proofs.rule.note_devices.Given as goal

abbrev pub invariant-loop-slot : goal.invariant-loop-slot
invariant-loop-slot l = record {
  rest : l.made.items ++ devices_of (drop l.slot-index l.slots) ≡ l.initial.made.items ++ devices_of l.slots;
  few : vec_len l.made ≤ vec_len l.initial.made + l.slot-index;
  capacity : vec_capacity l.initial.made ≤ vec_capacity l.made;
}
