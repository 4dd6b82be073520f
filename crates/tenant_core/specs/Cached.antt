-- What a query asks of a pool, and what a store may have in its cache for it.
use Rattle.std.specs.Prelude.{◌≡◌, ◌≤◌, ◌*◌, ℕ, Option}
use Rattle.serde_json.specs.Data.{Data}
use Rattle.crush_pool.specs.crush_choose.specs.declared.limits.TheConstants.{SIZE_LIMIT}
use Rattle.crush_pool.specs.declared.limits.TheConstants.{GROUP_LIMIT}
use Rattle.crush_report.specs.Moves.{gained_in}
use Rattle.tenant_messages.specs.Reply.{Answer, success}
use Rattle.tenant_reports.specs.Impact as impact
use Rattle.tenant_reports.specs.Moves as moves
use Rattle.tenant_resources.specs.Groups as groups
use Rattle.tenant_core.specs.Queries.{answer}
use Rattle.tenant_core.specs.declared.cached.Question.{Question}
use Rattle.tenant_core.specs.declared.cached.Question.TheVariants.{Group, Object, Device, Versions}
use Rattle.tenant_core.specs.declared.cached.CachedAnswer.{CachedAnswer}
use Rattle.tenant_core.specs.declared.cached.CachedAnswer.TheVariants.{Placed, Located, Touched, Moved}
use Rattle.tenant_core.specs.declared.queries.Query.{Query}
use Rattle.tenant_state.specs.State.{Inventory, TenantPool, pool}

-- the answer to what is asked of a pool, or of one that isn't there
abbrev pub answer_on : Inventory → Question → Option TenantPool → Answer
answer_on inventory (Group g) p = groups.group_on inventory g p
answer_on inventory (Object name) p = groups.object_on inventory name.now p
answer_on inventory (Device d) p = impact.impact_on inventory d p
answer_on inventory (Versions v w) p = moves.moves_on inventory v w p

-- a query asks that of the pool with an id: its answer is the answer to that
abbrev pub Asks : Query → ℕ → Question → Type 0
Asks query id asked = (inventory : Inventory) → answer query inventory ≡ answer_on inventory asked (pool id inventory)

-- what the reply says that is made from what was in the cache
abbrev pub cached_reply : Inventory → CachedAnswer → Data
cached_reply inventory (Placed group placement) = groups.group_reply inventory group placement.value
cached_reply inventory (Located name group placement) = groups.object_reply name.now inventory group placement.value
cached_reply inventory (Touched id device touched) = impact.impact_reply inventory id device touched
cached_reply inventory (Moved id from to rows) = moves.moves_reply inventory id from to rows

-- groups that move gain no more devices than the groups of a pool have places
abbrev pub HasRoom : CachedAnswer → Type 0
HasRoom (Placed group placement) = Unit {0}
HasRoom (Located name group placement) = Unit {0}
HasRoom (Touched id device touched) = Unit {0}
HasRoom (Moved id from to rows) = gained_in rows ≤ SIZE_LIMIT * GROUP_LIMIT

-- the reply from what was in the cache says an answer
abbrev pub Says : Inventory → CachedAnswer → Answer → Type 0
Says inventory cached it = HasRoom cached × (it ≡ success (cached_reply inventory cached))

-- the cache has what a query asks for
abbrev pub IsCachedFor : Query → Inventory → CachedAnswer → Type 0
IsCachedFor query inventory cached = Says inventory cached (answer query inventory)
