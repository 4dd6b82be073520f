-- The answer where a pool is there: by the placement of the group, or by why there is none.
use Rattle.std.proofs.Common.{◌≡◌, ◌∙◌, ◌==◌, ℕ, List, Some, Ok, Err, sym, ap}
use Rattle.std.specs.Prelude.{find}
use Rattle.serde_json.specs.Data.{Data}
use Rattle.crush_hash.specs.Hash.{name_hash}
use Rattle.crush_pool.specs.Groups.{mask_of, stable_mod}
use Rattle.crush_pool.specs.Pools.{group_of}
use Rattle.crush_pool.specs.declared.pool.PoolParts.{PoolParts}
use Rattle.crush_pool.specs.declared.placing.Placement.{Placement}
use Rattle.tenant_messages.specs.Refusals.{Answers, Gives, answer_with}
use Rattle.tenant_messages.specs.Reply.{success}
use Rattle.tenant_messages.specs.declared.reply.Refusal.{Refusal}
use Rattle.tenant_messages.specs.declared.reply.Refusal.TheVariants.{Problem, NoMemory}
use Rattle.tenant_resources.specs.Groups.{placed, group_reply, group_on, group_answer, object_reply, object_on, object_answer}
use Rattle.tenant_state.specs.State.{Inventory, TenantPool, pool}

-- the pool with an id, among the pools of a state
pub pool_there : (id : ℕ) (inventory : Inventory) (pools : List TenantPool) (p : TenantPool) → pools ≡ inventory.pools → Some p ≡ find (λ p. p.parts.id == id) pools → pool id inventory ≡ Some p
pool_there id inventory pools p same found = sym (found ∙ ap (find (λ (p : TenantPool). p.parts.id == id)) same)

-- ---- groups

pub group_refused : (id group : ℕ) (inventory : Inventory) (p : TenantPool) (why : Refusal) → pool id inventory ≡ Some p → Gives (λ q. q) (Err why) (placed inventory p group)
    → Answers (Err why) (group_answer id group inventory)
group_refused id group inventory p (Problem problem) there given = ap (group_on inventory group) there ∙ ap (answer_with (group_reply inventory group)) given
group_refused id group inventory p NoMemory there given = tt

pub group_placed : (id group : ℕ) (inventory : Inventory) (p : TenantPool) (placement : Placement) (body : Data) → pool id inventory ≡ Some p → placed inventory p group ≡ Ok placement
    → body ≡ group_reply inventory group placement → success body ≡ group_answer id group inventory
group_placed id group inventory p placement body there given written =
    ap success written ∙ sym (ap (group_on inventory group) there ∙ ap (answer_with (group_reply inventory group)) given)

-- ---- objects

-- the group of a name's hash is that of the name
pub group_of-hash : (parts own : PoolParts) (name : List ℕ) (hash group : ℕ) → group ≡ stable_mod hash parts.pg_num (mask_of parts.pg_num) → parts ≡ own → hash ≡ name_hash name
    → group ≡ group_of own name
group_of-hash parts own name hash group is same hashed =
    is ∙ (ap (λ (p : PoolParts). stable_mod hash p.pg_num (mask_of p.pg_num)) same ∙ ap (λ h. stable_mod h own.pg_num (mask_of own.pg_num)) hashed)

abbrev name_reply : List ℕ → Inventory → TenantPool → Placement → Data
name_reply name inventory p = object_reply name inventory (group_of p.parts name)

pub object_refused : (id : ℕ) (name : List ℕ) (inventory : Inventory) (p : TenantPool) (group : ℕ) (why : Refusal) → pool id inventory ≡ Some p → group ≡ group_of p.parts name
    → Gives (λ q. q) (Err why) (placed inventory p group) → Answers (Err why) (object_answer id name inventory)
object_refused id name inventory p group (Problem problem) there own given =
    ap (object_on inventory name) there ∙ ap (answer_with (name_reply name inventory p)) (ap (placed inventory p) (sym own) ∙ given)
object_refused id name inventory p group NoMemory there own given = tt

pub object_placed : (id : ℕ) (name : List ℕ) (inventory : Inventory) (p : TenantPool) (text : List ℕ) (group : ℕ) (placement : Placement) (body : Data) → pool id inventory ≡ Some p
    → text ≡ name → group ≡ group_of p.parts name → placed inventory p group ≡ Ok placement → body ≡ object_reply text inventory group placement → success body ≡ object_answer id name inventory
object_placed id name inventory p text group placement body there same own given written =
    ap success (written ∙ (ap (λ t. object_reply t inventory group placement) same ∙ ap (λ g. object_reply name inventory g placement) own))
    ∙ sym (ap (object_on inventory name) there ∙ ap (answer_with (name_reply name inventory p)) (ap (placed inventory p) (sym own) ∙ given))
