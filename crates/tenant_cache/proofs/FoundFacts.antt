-- What was found for what is asked of a pool, and the answer that it says.
use Rattle.std.proofs.Common.{◌≡◌, ◌≤◌, ◌*◌, ◌∙◌, ◌==◌, ℕ, List, [], ◌∷◌, find, Bool, true, false, nat_lt, if◌then◌else◌, ok_or, option_map, Option, Some, None, Ok, Bor, refl, sym, ap, subst, eqb-true}
use Rattle.std.specs.declared.alloc.Global.{Global}
use Rattle.std.specs.declared.rc.Rc.{Rc}
use Rattle.crush_map.specs.Map.{Map}
use Rattle.crush_map.specs.declared.draft.Rule.{Rule}
use Rattle.crush_pool.specs.crush_choose.specs.declared.limits.TheConstants.{SIZE_LIMIT}
use Rattle.crush_pool.specs.Placements.{placement, rule_numbered}
use Rattle.crush_pool.specs.Placers.{PoolOnMap}
use Rattle.crush_pool.specs.Pools.{group_of}
use Rattle.crush_pool.specs.declared.limits.TheConstants.{GROUP_LIMIT}
use Rattle.crush_pool.specs.declared.placing.Placement.{Placement}
use Rattle.crush_pool.specs.declared.pool.PoolParts.{PoolParts}
use Rattle.crush_report.specs.Moves.{gained_in}
use Rattle.crush_report.specs.Reports as reports
use Rattle.crush_report.specs.declared.rows.MoveRow.{MoveRow}
use Rattle.tenant_core.specs.tenant_messages.specs.Refusals.{answer_with}
use Rattle.tenant_core.specs.tenant_messages.specs.Reply.{success}
use Rattle.tenant_core.specs.tenant_messages.specs.declared.reply.Problem.TheVariants.{NoRule}
use Rattle.tenant_reports.specs.Impact as impact
use Rattle.tenant_reports.specs.Moves as moves
use Rattle.tenant_core.specs.tenant_resources.specs.Groups as groups
use Rattle.tenant_state.specs.State.{Inventory, TenantPool, if_there, newest, on_newest, on_version, pool, version}
use Rattle.tenant_core.specs.Cached.{Asks, IsCachedFor, Says, answer_on}
use Rattle.tenant_core.specs.declared.cached.Question.{Question}
use Rattle.tenant_core.specs.declared.cached.Question.TheVariants as asked
use Rattle.tenant_core.specs.declared.cached.CachedAnswer.{CachedAnswer}
use Rattle.tenant_core.specs.declared.cached.CachedAnswer.TheVariants.{Placed, Located, Touched, Moved}
use Rattle.tenant_core.specs.declared.queries.Query.{Query}

-- ---- the pool of a query

found-passes : {A : Type 0} (test : A → Bool) (xs : List A) (x : A) → find test xs ≡ Some x → test x ≡ true
found-passes test [] x h = cc
found-passes test (y ∷ ys) x h = at (test y) refl (found-passes test ys x) h
  where
    at : (b : Bool) → test y ≡ b → (find test ys ≡ Some x → test x ≡ true) → (if b then Some y else find test ys) ≡ Some x → test x ≡ true
    at true is rest h = let same : y ≡ x = cc in subst (λ z. test z ≡ true) same is
    at false is rest h = rest h

-- it is the pool with its id
pub own_pool : (id : ℕ) (i : Inventory) (p : TenantPool) → pool id i ≡ Some p → pool p.parts.id i ≡ Some p
own_pool id i p h = subst (λ n. pool n i ≡ Some p) (sym (eqb-true p.parts.id id (found-passes (λ q. q.parts.id == id) i.pools p h))) h

-- what says the answer to what is asked of the pool says that to the query
pub is_for : (query : Query) (id : ℕ) (i : Inventory) (p : TenantPool) (it : Question) (c : CachedAnswer) → Asks query id it → pool id i ≡ Some p → Says i c (answer_on i it (Some p)) → IsCachedFor query i c
is_for query id i p it c asks there says = (says.0, asks i ∙ (ap (answer_on i it) there ∙ says.1))

-- ---- a pool on the newest version

ruled : (m : Map) (i : Inventory) (q : TenantPool) (p : PoolOnMap) (o : Option Rule)
    → ok_or (option_map (λ rule. record { map = m; states = i.devices; pool = q.parts; pairs = q.pairs }) o) NoRule ≡ Ok p → p ≡ record { map = m; states = i.devices; pool = q.parts; pairs = q.pairs }
ruled m i q p None h = cc
ruled m i q p (Some r) h = let same : Ok p ≡ Ok (record { map = m; states = i.devices; pool = q.parts; pairs = q.pairs }) = sym h in cc

pool_of : (i : Inventory) (q : TenantPool) (p : PoolOnMap) (o : Option Map) → if_there i q o ≡ Ok p → p.pool ≡ q.parts
pool_of i q p None h = cc
pool_of i q p (Some m) h = ap (λ (r : PoolOnMap). r.pool) (ruled m i q p (rule_numbered m q.parts.rule) h)

-- the placement of a group by its rule is that on the newest version
pub is_placed : (i : Inventory) (q : TenantPool) (p : PoolOnMap) (group : ℕ) (answer : Rc Placement Global) → on_newest i q ≡ Ok p
    → placement p.map p.states p.pool p.pairs group ≡ Some answer.value → true ≡ nat_lt group p.pool.pg_num → groups.placed i q group ≡ Ok answer.value
is_placed i q p group answer on by_rule below =
    let inside : nat_lt group q.parts.pg_num ≡ true = sym (below ∙ ap (λ (r : PoolParts). nat_lt group r.pg_num) (pool_of i q p (version (newest i) i) on)) in
    rw inside (ap (groups.on_map group) on ∙ ap (λ o. ok_or o NoRule) by_rule)

-- the groups that a device can touch on a map are those on the newest version
pub is_touched : (i : Inventory) (q : TenantPool) (m : Map) (p : PoolOnMap) (number d : ℕ) (touched : List ℕ) → version (newest i) i ≡ Some m → on_version i q m ≡ Ok p
    → impact.id_of p.map.devices number ≡ Some d → Some touched ≡ reports.impact p.map p.states p.pool p.pairs d → impact.groups_of i q number ≡ Ok touched
is_touched i q m p number d touched there on id of =
    ap (impact.on_map number) (ap (if_there i q) there ∙ on) ∙ (ap (impact.on_device p) id ∙ ap (λ o. ok_or o NoRule) (sym of))

-- ---- what was found says the answer

pub placed_says : (i : Inventory) (q : TenantPool) (group : ℕ) (p : Rc Placement Global) → groups.placed i q group ≡ Ok p.value → Says i (Placed group p) (answer_on i (asked.Group group) (Some q))
placed_says i q group p found = (tt, ap (answer_with (groups.group_reply i group)) found)

pub located_says : (i : Inventory) (q : TenantPool) (name : Bor (List ℕ)) (group : ℕ) (p : Rc Placement Global) → group ≡ group_of q.parts name.now → groups.placed i q group ≡ Ok p.value
    → Says i (Located name group p) (answer_on i (asked.Object name) (Some q))
located_says i q name group p own found =
    (tt, ap (λ k. answer_with (groups.object_reply name.now i k) (groups.placed i q k)) (sym own) ∙ ap (answer_with (groups.object_reply name.now i group)) found)

pub touched_says : (i : Inventory) (q : TenantPool) (id d : ℕ) (touched : List ℕ) → id ≡ q.parts.id → impact.groups_of i q d ≡ Ok touched → Says i (Touched id d touched) (answer_on i (asked.Device d) (Some q))
touched_says i q id d touched same found = (tt, ap (answer_with (impact.impact_reply i q.parts.id d)) found ∙ ap (λ n. success (impact.impact_reply i n d touched)) (sym same))

pub moved_says : (i : Inventory) (q : TenantPool) (id v w : ℕ) (rows : List MoveRow) → id ≡ q.parts.id → moves.rows_of i q v w ≡ Ok rows → gained_in rows ≤ SIZE_LIMIT * GROUP_LIMIT
    → Says i (Moved id v w rows) (answer_on i (asked.Versions v w) (Some q))
moved_says i q id v w rows same found few = (few, ap (answer_with (moves.moves_reply i q.parts.id v w)) found ∙ ap (λ n. success (moves.moves_reply i n v w rows)) (sym same))
