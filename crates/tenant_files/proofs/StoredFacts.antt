-- Tables say of tenants what their database says; and what is said of a run over states is said of
-- the same states.
use Rattle.std.proofs.Common.{◌≡◌, ℕ, List, Bool, false}
use Rattle.sqlite.specs.Effect.{Database}
use Rattle.tenant_core.specs.States.{States, Same, IsDamaged, MeetsDefinition}
use Rattle.tenant_core.specs.tenant_messages.specs.declared.call.Call.{Call}
use Rattle.tenant_core.specs.tenant_messages.specs.declared.reply.Reply.{Reply}
use Rattle.tenant_store.specs.tenant_tables.proofs.Migrated.{found_states}
use Rattle.tenant_store.specs.tenant_tables.specs.Rows.{StandsFor, StatesIn}
use Rattle.tenant_store.specs.table_schema.specs.Layout.{IsStoreSchema}

-- ---- states that are the same

pub same_states : (a : States) → Same a a
same_states a t s = (λ has. has, λ has. has)

pub damaged_too : (a b : States) → Same a b → (t : List ℕ) → IsDamaged b t → IsDamaged a t
damaged_too a b same t damaged s has = damaged s ((same t s).0 has)

pub meets_same : (latched : Bool) (a b c d : States) (calls : List Call) (replies : List Reply) → Same a b → (latched ≡ false → Same c d)
    → MeetsDefinition latched a c calls replies → MeetsDefinition latched b d calls replies
meets_same latched a b c d calls replies before after meets = record {
  count = meets.count;
  headline = λ t s has. meets.headline t s ((before t s).1 has);
  leaves = λ works t s has. ((after works) t _).0 (meets.leaves works t s ((before t s).1 has));
  nobody = meets.nobody;
  damaged = λ t damaged. meets.damaged t (damaged_too a b before t damaged);
  stays = λ works t damaged s has. meets.stays works t (damaged_too a b before t damaged) s (((after works) t s).1 has);
  causes = meets.causes;
}

-- ---- what tables say

-- the same rows before and after
pub turned : (a b : States) → Same a b → Same b a
turned a b same t s = ((same t s).1, (same t s).0)

-- what is left in this service's tables
pub left_states : (db : Database) → IsStoreSchema db.schema → Same (λ t s. StandsFor db.trees t s) (StatesIn db)
left_states db own t s = let same = found_states db own t s in (same.1, same.0)
