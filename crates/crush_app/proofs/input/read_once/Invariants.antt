use Rattle.std.specs.Io.KnownBytes.{Keeps}
use Rattle.crush_app.proofs.input.read_once.Given as goal

-- no byte was taken so far
abbrev pub invariant-loop : goal.invariant-loop
invariant-loop g l = Keeps (g.R.Read.remaining l.fn.reader) (g.R.Read.remaining l.reader)
