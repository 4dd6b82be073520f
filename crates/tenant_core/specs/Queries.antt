-- Queries: questions about a tenant's state, which is unchanged by them.
use Rattle.tenant_messages.specs.Reply.{Answer}
use Rattle.tenant_reports.specs.Impact as impact
use Rattle.tenant_reports.specs.Moves as moves
use Rattle.tenant_reports.specs.Usage as usage
use Rattle.tenant_resources.specs.Exceptions as exceptions
use Rattle.tenant_resources.specs.Groups as groups
use Rattle.tenant_resources.specs.Maps as maps
use Rattle.tenant_reports.specs.Picks as picks
use Rattle.tenant_resources.specs.RuleTests as rule_tests
use Rattle.tenant_core.specs.declared.queries.Query.{Query}
use Rattle.tenant_core.specs.declared.queries.Query.TheVariants as query
use Rattle.tenant_state.specs.State.{Inventory}

-- the answer to a query: the table of all queries
abbrev pub answer : Query → Inventory → Answer
answer (query.Version v) inventory = maps.answer v inventory
answer (query.Exceptions p) inventory = exceptions.exceptions_answer p inventory
answer (query.Group p g) inventory = groups.group_answer p g inventory
answer (query.Object p name) inventory = groups.object_answer p name inventory
answer (query.Usage p) inventory = usage.usage_answer p inventory
answer (query.Moves p v w) inventory = moves.moves_answer p v w inventory
answer (query.Impact p d) inventory = impact.impact_answer p d inventory
answer (query.Pick pick) inventory = picks.answer pick
answer (query.Test test) inventory = rule_tests.answer test inventory
