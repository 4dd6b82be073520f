-- How much of a pool lies on each device: at `/t/{t}/pools/{p}/usage` GET reads the counts of all
-- groups on the newest version.
use Rattle.std.specs.Prelude.{ℕ, List, [], ◌∷◌, map, Option, Some, None, Result, Ok, Err, codes}
use Rattle.std.specs.Option.{ok_or}
use Rattle.serde_json.specs.Data.{Data, object}
use Rattle.crush_pool.specs.Placers.{PoolOnMap}
use Rattle.crush_report.specs.Reports.{usage}
use Rattle.crush_report.specs.declared.rows.UsageRow.{UsageRow}
use Rattle.tenant_messages.specs.Refusals.{answer_with}
use Rattle.tenant_messages.specs.Reply.{Answer, refused, members_of, natural}
use Rattle.tenant_messages.specs.Slots.{list_json}
use Rattle.tenant_messages.specs.declared.reply.Problem.{Problem}
use Rattle.tenant_messages.specs.declared.reply.Problem.TheVariants.{NoPool, NoRule}
use Rattle.tenant_state.specs.State.{Inventory, TenantPool, newest, on_newest, pool}

-- ---- the answer

-- {"device": d, "entries": .., "groups": .., "permille": .., "primaries": ..}
abbrev pub row_json : UsageRow → Data
row_json row =
    object (members_of ((codes "device", natural row.device) ∷ (codes "entries", natural row.entries) ∷ (codes "groups", natural row.groups)
    ∷ (codes "permille", natural row.permille) ∷ (codes "primaries", natural row.primaries) ∷ []))

-- {"epoch": E, "pool": p, "rows": [ROW, ..], "version": V}
abbrev pub usage_reply : ℕ → ℕ → ℕ → List UsageRow → Data
usage_reply epoch version id rows =
    object (members_of ((codes "epoch", natural epoch) ∷ (codes "pool", natural id) ∷ (codes "rows", list_json (map row_json rows))
    ∷ (codes "version", natural version) ∷ []))

-- the counts on a map with the pool's rule
abbrev pub on_map : Result PoolOnMap Problem → Result (List UsageRow) Problem
on_map (Err problem) = Err problem
on_map (Ok p) = ok_or (usage p.map p.states p.pool p.pairs) NoRule

-- the counts on the newest version, or why there are none
abbrev pub rows_of : Inventory → TenantPool → Result (List UsageRow) Problem
rows_of inventory p = on_map (on_newest inventory p)

abbrev pub usage_on : Inventory → Option TenantPool → Answer
usage_on inventory None = refused NoPool
usage_on inventory (Some p) = answer_with (usage_reply inventory.epoch (newest inventory) p.parts.id) (rows_of inventory p)

-- the counts of the pool with an id
abbrev pub usage_answer : ℕ → Inventory → Answer
usage_answer id inventory = usage_on inventory (pool id inventory)
