-- Tenants, at `/t/{t}`: PUT creates one, GET shows what it has, DELETE drops it.
use Rattle.std.specs.Prelude.{ℕ, List, [], ◌∷◌, length, Option, Some, None, codes}
use Rattle.serde_json.specs.Data.{Data, string, object}
use Rattle.tenant_core.specs.Effects.{Decided, decided}
use Rattle.tenant_core.specs.declared.decision.Effect.TheVariants.{Keep, Create}
use Rattle.tenant_messages.specs.Reply.{refused, created, members_of, natural}
use Rattle.tenant_messages.specs.declared.reply.Problem.TheVariants.{Exists}
use Rattle.tenant_state.specs.State.{Inventory, newest}

-- ---- bodies of replies

abbrev pub creation_reply : List ℕ → Data
creation_reply tenant = object (members_of ((codes "epoch", natural 0) ∷ (codes "tenant", string tenant) ∷ []))

abbrev pub summary_reply : List ℕ → Inventory → Data
summary_reply tenant inventory =
    object (members_of ((codes "devices", natural (length inventory.devices)) ∷ (codes "epoch", natural inventory.epoch) ∷ (codes "pools", natural (length inventory.pools))
    ∷ (codes "tenant", string tenant) ∷ (codes "versions", natural (newest inventory)) ∷ []))

abbrev pub removal_reply : List ℕ → Data
removal_reply tenant = object (members_of ((codes "dropped", string tenant) ∷ []))

-- ---- creation

abbrev pub created_on : List ℕ → Option Inventory → Decided
created_on tenant None = decided Create (created (creation_reply tenant))
created_on tenant (Some inventory) = decided Keep (refused Exists)
