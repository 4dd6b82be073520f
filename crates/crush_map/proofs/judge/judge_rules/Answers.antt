use Rattle.std.proofs.Common.{arith}
use Rattle.std.proofs.lemmas.Grind.{common_steps}
use Rattle.crush_map.specs.Faults.{first_in}
use Rattle.crush_map.proofs.Checks.{rule_fault_by_parts}
use Rattle.crush_map.proofs.judge.judge_rules.Goals as goal

pub returns-in-Some-clause-fault : goal.returns-in-Some-clause-fault
unfolding first_in
returns-in-Some-clause-fault c = grind (arith, common_steps, rule_fault_by_parts c.loop-index.known c.index-rules-index.result)

pub loop-index-preserved : goal.loop-index-preserved
unfolding first_in
loop-index-preserved c = grind (arith, common_steps, rule_fault_by_parts c.loop-index.known c.index-rules-index.result)
