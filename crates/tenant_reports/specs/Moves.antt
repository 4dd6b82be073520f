-- Which groups of a pool move between two versions: at `/t/{t}/pools/{p}/moves/{v}/{w}` GET reads
-- those whose up lists differ.
use Rattle.std.specs.Prelude.{ℕ, List, [], ◌∷◌, length, map, Option, Some, None, Result, Ok, Err, codes}
use Rattle.std.specs.Option.{ok_or}
use Rattle.serde_json.specs.Data.{Data, object}
use Rattle.crush_map.specs.Map.{Map}
use Rattle.crush_pool.specs.Placers.{PoolOnMap}
use Rattle.crush_report.specs.Moves.{gained_in}
use Rattle.crush_report.specs.Reports.{moves}
use Rattle.crush_report.specs.declared.rows.MoveRow.{MoveRow}
use Rattle.tenant_messages.specs.Refusals.{answer_with}
use Rattle.tenant_messages.specs.Reply.{Answer, refused, members_of, natural}
use Rattle.tenant_messages.specs.Slots.{slot_json, list_json}
use Rattle.tenant_messages.specs.declared.reply.Problem.{Problem}
use Rattle.tenant_messages.specs.declared.reply.Problem.TheVariants.{NoVersion, NoPool, NoRule}
use Rattle.tenant_state.specs.State.{Inventory, TenantPool, version, on_version, pool}

-- ---- the answer

-- {"gained": .., "group": g, "new": [..], "old": [..]}
abbrev pub row_json : MoveRow → Data
row_json row =
    object (members_of ((codes "gained", natural row.gained) ∷ (codes "group", natural row.group) ∷ (codes "new", list_json (map slot_json row.new))
    ∷ (codes "old", list_json (map slot_json row.old)) ∷ []))

-- {"epoch": E, "from": v, "gained": the sum of the rows', "moved": the number of rows, "pool": p,
-- "rows": [ROW, ..], "to": w}
abbrev pub moves_reply : Inventory → ℕ → ℕ → ℕ → List MoveRow → Data
moves_reply inventory id from to rows =
    object (members_of ((codes "epoch", natural inventory.epoch) ∷ (codes "from", natural from) ∷ (codes "gained", natural (gained_in rows))
    ∷ (codes "moved", natural (length rows)) ∷ (codes "pool", natural id) ∷ (codes "rows", list_json (map row_json rows)) ∷ (codes "to", natural to) ∷ []))

-- the groups that move between two maps with the pool's rule
abbrev pub on_maps : Result PoolOnMap Problem → Result PoolOnMap Problem → Result (List MoveRow) Problem
on_maps (Err problem) to = Err problem
on_maps (Ok from) (Err problem) = Err problem
on_maps (Ok from) (Ok to) = ok_or (moves from.map to.map from.states from.pool from.pairs) NoRule

-- both versions have to be there, and then to have the pool's rule
abbrev pub on_versions : Inventory → TenantPool → Option Map → Option Map → Result (List MoveRow) Problem
on_versions inventory p None to = Err NoVersion
on_versions inventory p (Some from) None = Err NoVersion
on_versions inventory p (Some from) (Some to) = on_maps (on_version inventory p from) (on_version inventory p to)

abbrev pub rows_of : Inventory → TenantPool → ℕ → ℕ → Result (List MoveRow) Problem
rows_of inventory p from to = on_versions inventory p (version from inventory) (version to inventory)

abbrev pub moves_on : Inventory → ℕ → ℕ → Option TenantPool → Answer
moves_on inventory from to None = refused NoPool
moves_on inventory from to (Some p) = answer_with (moves_reply inventory p.parts.id from to) (rows_of inventory p from to)

-- the groups of the pool with an id that move from a version to another
abbrev pub moves_answer : ℕ → ℕ → ℕ → Inventory → Answer
moves_answer id from to inventory = moves_on inventory from to (pool id inventory)
