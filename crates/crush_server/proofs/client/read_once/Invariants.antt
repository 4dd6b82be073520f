use Rattle.std.specs.Io.KnownBytes.{Keeps}
use Rattle.crush_server.proofs.client.read_once.Given as goal

-- no byte was taken so far
abbrev pub invariant-loop-try : goal.invariant-loop-try
invariant-loop-try g l = Keeps (g.R.Read.remaining l.fn.reader) (g.R.Read.remaining l.reader)
