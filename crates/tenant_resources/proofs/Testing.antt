-- The body of the reply to a rule test.
use Rattle.std.proofs.Common.{◌≡◌, ℕ, List, refl}
use Rattle.crush_bucket.specs.Tables.{TablesView, tables_of}
use Rattle.crush_choose.specs.Marks.{Slot}
use Rattle.crush_choose.specs.Rules.{rule_answer}
use Rattle.crush_choose.specs.Trace.{rule_trace}
use Rattle.crush_map.specs.Map.{Map}
use Rattle.crush_map.specs.declared.draft.Rule.{Rule}
use Rattle.tenant_resources.specs.RuleTests.{RuleTest, outcome, test_reply}

pub tested_is : (e v : ℕ) (m : Map) (weights : List ℕ) (rule : Rule) (t own : RuleTest) (tables : TablesView) (items : List Slot) (trace : List ℕ)
    → tables ≡ tables_of m → own ≡ t → items ≡ rule_answer tables weights rule.steps own.x own.size → trace ≡ rule_trace tables weights rule.steps own.x own.size
    → outcome e v items trace ≡ test_reply e v m weights rule t.x t.size
tested_is e v m weights rule t own tables items trace its_tables its_test its_items its_trace = rw (its_items, its_trace, its_tables, its_test) refl
