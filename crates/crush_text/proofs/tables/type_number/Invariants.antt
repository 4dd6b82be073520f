use Rattle.std.proofs.Common.{◌≡◌, drop, find, bytes_eq}
use Rattle.crush_text.proofs.tables.type_number.Given as goal

abbrev pub invariant-loop-declared : goal.invariant-loop-declared
invariant-loop-declared l = find (λ t. bytes_eq t.name l.name) (drop l.declared-index l.types) ≡ find (λ t. bytes_eq t.name l.name) l.types
