use Rattle.std.proofs.Common.{◌≡◌, ◌++◌, take}
use Rattle.std.specs.List.{flat_map}
use Rattle.crush_writing.specs.Canonical.{type_line}
use Rattle.crush_writing.proofs.write.write_types.Given as goal

abbrev pub invariant-loop-declared : goal.invariant-loop-declared
invariant-loop-declared l = l.out.items ≡ l.initial.out.items ++ flat_map type_line (take l.declared-index l.types)
