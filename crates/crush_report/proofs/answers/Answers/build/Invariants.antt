use Rattle.std.proofs.Common.{◌≡◌, ◌+◌, length}
use Rattle.std.specs.Prelude.{slice_index_or}
use Rattle.crush_bucket.specs.Tables.{scratch_of, tables_of}
use Rattle.crush_report.specs.Private.Places.{AreInOrder}
use Rattle.crush_report.proofs.answers.Answers.build.Given as goal

abbrev pub invariant-loop-place : goal.invariant-loop-place
invariant-loop-place l = record {
  fits : l.scratch ≡ scratch_of (tables_of l.placer.map);
  len : length l.starts.items ≡ l.place + 1;
  last : slice_index_or l.starts.items l.place 0 ≡ length l.slots.items;
  each : AreInOrder l.placer l.slots.items l.starts.items;
}
