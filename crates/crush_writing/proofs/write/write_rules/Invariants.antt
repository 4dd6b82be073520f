use Rattle.std.proofs.Common.{◌≡◌, ◌++◌, take}
use Rattle.std.specs.List.{flat_map}
use Rattle.crush_writing.specs.Canonical.{rule_lines}
use Rattle.crush_writing.proofs.write.write_rules.Given as goal

abbrev pub invariant-loop-rule : goal.invariant-loop-rule
invariant-loop-rule l = l.out.items ≡ l.initial.out.items ++ flat_map (rule_lines l.names) (take l.rule-index l.rules)
