use Rattle.std.proofs.Common.{◌≡◌, take, map}
use Rattle.httparse.specs.Spans.{header_bytes}
use Rattle.crush_http.specs.Headers as spec
use Rattle.crush_http.proofs.headers.asks_close.Given as goal

-- whether one of the headers so far asks for the close
abbrev pub invariant-loop-header : goal.invariant-loop-header
invariant-loop-header l = l.closes ≡ spec.asks_close (map (header_bytes l.bytes) (take l.header-index l.headers))
