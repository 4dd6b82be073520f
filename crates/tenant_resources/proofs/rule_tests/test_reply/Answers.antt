use Rattle.std.proofs.Common.{◌≡◌, ◌∙◌, IfOk, subst}
use Rattle.serde_json.specs.View.{view}
use Rattle.tenant_resources.proofs.Testing.{tested_is}
use Rattle.tenant_resources.proofs.rule_tests.test_reply.Goals as goal

pub returns : goal.returns
returns c =
    subst (λ body. IfOk c.outcome.result (λ v. view v ≡ body))
    (tested_is c.args.epoch c.args.number c.args.version.now c.args.weights.now c.args.rule.now c.args.test.now _ c.tables-tables.result.now c.items.result.now c.trace.result.now
    c.tables-tables.ensures c.test.view_is (c.items.ensures.value ∙ c.run_rule.ensures.items)
    (c.trace.ensures ∙ (c.traces_ascend.ensures _ _ _ _ _ _).0 c.run_rule.ensures.trace))
    c.outcome.ensures
