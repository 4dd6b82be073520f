-- The last members of a reply with a placement.
use Rattle.std.specs.Prelude.{ℕ, [], ◌∷◌, map, codes}
use Rattle.serde_json.specs.Data.{Members}
use Rattle.crush_pool.specs.declared.placing.Placement.{Placement}
use Rattle.tenant_messages.specs.Reply.{members_of, natural}
use Rattle.tenant_messages.specs.Slots.{slot_json, list_json}

-- those of a placement, and the version
abbrev pub placement_members : Placement → ℕ → Members
placement_members p version =
    members_of ((codes "primary", slot_json p.primary) ∷ (codes "raw", list_json (map slot_json p.raw)) ∷ (codes "seed", natural p.seed)
    ∷ (codes "up", list_json (map slot_json p.up)) ∷ (codes "version", natural version) ∷ [])
