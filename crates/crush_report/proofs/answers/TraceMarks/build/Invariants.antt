use Rattle.std.proofs.Common.{◌≡◌, ◌<◌, ℕ, false, length}
use Rattle.std.specs.Prelude.{slice_index_or}
use Rattle.crush_map.specs.Faults.{has_number}
use Rattle.crush_bucket.specs.Tables.{scratch_of, tables_of}
use Rattle.crush_report.specs.OnMaps.{trace_on}
use Rattle.crush_report.proofs.answers.TraceMarks.build.Given as goal

abbrev pub invariant-loop-place : goal.invariant-loop-place
invariant-loop-place l = record {
  fits : l.scratch ≡ scratch_of (tables_of l.placer.map);
  len : length l.found.items ≡ l.place;
  each : (k : ℕ) → k < length l.found.items → slice_index_or l.found.items k false ≡ has_number (trace_on l.placer k) l.device;
}
