use Rattle.std.proofs.Common.{◌≡◌, ◌-◌, length}
use Rattle.crush_http.specs.Private.Reading.{ReadsOn}
use Rattle.crush_http.proofs.head.read_head.Given as goal

-- what was read is in the buffer
abbrev pub invariant-loop-found : goal.invariant-loop-found
invariant-loop-found g l = record {
  read : ReadsOn l.fn.buffer (g.R.Read.remaining l.fn.reader) (g.R.Read.remaining l.reader) (λ all. l.buffer ≡ all);
  room : length l.headers ≡ length l.fn.headers;
}

abbrev pub decreases-loop-found : goal.decreases-loop-found
decreases-loop-found g l = 8192 - length l.buffer
