use Rattle.std.proofs.Common.{◌≡◌, drop}
use Rattle.crush_text.specs.Judging.{is_named}
use Rattle.crush_text.proofs.judge.is_named.Given as goal

abbrev pub invariant-loop-other : goal.invariant-loop-other
invariant-loop-other l = is_named (drop l.other-index l.names) l.name ≡ is_named l.names l.name
