use Rattle.std.proofs.Common.{take, map}
use Rattle.httparse.specs.Spans.{header_bytes}
use Rattle.crush_http.specs.Headers.{values}
use Rattle.crush_http.specs.Private.Reading.{AreValues}
use Rattle.crush_http.proofs.headers.values_of.Given as goal

-- the values of the headers so far
abbrev pub invariant-loop-header : goal.invariant-loop-header
invariant-loop-header l = AreValues l.values (values l.name (map (header_bytes l.bytes) (take l.header-index l.headers)))
