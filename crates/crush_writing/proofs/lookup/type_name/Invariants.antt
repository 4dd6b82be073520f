use Rattle.std.proofs.Common.{◌≡◌, drop}
use Rattle.crush_writing.specs.Canonical.{type_name}
use Rattle.crush_writing.proofs.lookup.type_name.Given as goal

abbrev pub invariant-loop-declared : goal.invariant-loop-declared
invariant-loop-declared l = type_name (drop l.declared-index l.types) l.number ≡ type_name l.types l.number
