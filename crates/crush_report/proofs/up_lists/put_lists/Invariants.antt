use Rattle.std.proofs.Common.{◌≡◌, length, map}
use Rattle.std.specs.List.{range_with_len}
use Rattle.crush_report.specs.OnMaps.{up_on}
use Rattle.crush_report.specs.Private.Parts.{AreEnds, last_end, parts_of}
use Rattle.crush_report.proofs.up_lists.put_lists.Given as goal

abbrev pub invariant-loop-group : goal.invariant-loop-group
invariant-loop-group l = record {
  on : l.run ≡ l.fn.run;
  ends : AreEnds (length l.slots.items) 0 l.ends.items;
  last : last_end 0 l.ends.items ≡ length l.slots.items;
  lists : parts_of l.slots.items 0 l.ends.items ≡ map (up_on l.fn.run) (range_with_len 0 l.group);
}
