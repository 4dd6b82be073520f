use Rattle.std.proofs.Common.{◌≡◌, take, drop, fold}
use Rattle.crush_map.specs.declared.fault.Element.TheVariants.{Rules}
use Rattle.crush_map.specs.Faults.{first_in, rule_fault, with_rule}
use Rattle.crush_map.proofs.judge.judge_rules.Given as goal

abbrev pub invariant-loop-index : goal.invariant-loop-index
invariant-loop-index l = record {
  fault : first_in Rules rule_fault with_rule l.index l.known (drop l.index l.rules) ≡ first_in Rules rule_fault with_rule 0 l.fn.known l.rules;
  known : l.known ≡ fold with_rule l.fn.known (take l.index l.rules);
}
