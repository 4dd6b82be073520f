-- The texts of replies with a placement, piece by piece.
use Rattle.std.proofs.Common.{◌≡◌, ℕ, List, ◌++◌, map, true, ◌∙◌}
use Rattle.std.specs.Fmt.{decimal}
use Rattle.std.specs.Prelude.{codes}
use Rattle.std.proofs.lemmas.List.{append_assoc}
use Rattle.json.specs.Print.{escape_byte}
use Rattle.serde_json.specs.Written.{compact_text, members_text}
use Rattle.crush_hash.specs.Hash.{name_hash}
use Rattle.crush_pool.specs.declared.placing.Placement.{Placement}
use Rattle.tenant_messages.specs.Slots.{slot_json, list_json}
use Rattle.tenant_resources.specs.Groups.{group_reply, object_reply}
use Rattle.tenant_resources.specs.Private.Members.{placement_members}
use Rattle.tenant_state.specs.State.{Inventory, newest}

-- ---- the placement and the version

-- what is put at the end, piece by piece, is the rest
six : (old a b c d e f : List ℕ) → old ++ a ++ b ++ c ++ d ++ e ++ f ≡ old ++ (a ++ (b ++ (c ++ (d ++ (e ++ f)))))
six old a b c d e f =
    append_assoc (old ++ a ++ b ++ c ++ d) e f ∙ append_assoc (old ++ a ++ b ++ c) d (e ++ f) ∙ append_assoc (old ++ a ++ b) c (d ++ (e ++ f))
    ∙ append_assoc (old ++ a) b (c ++ (d ++ (e ++ f))) ∙ append_assoc old a (b ++ (c ++ (d ++ (e ++ f))))

pub placement_by_pieces : (old : List ℕ) (p : Placement) (version : ℕ)
    → old ++ (codes ",\"primary\":" ++ compact_text (slot_json p.primary)) ++ (codes ",\"raw\":" ++ compact_text (list_json (map slot_json p.raw)))
    ++ (codes ",\"seed\":" ++ decimal p.seed) ++ (codes ",\"up\":" ++ compact_text (list_json (map slot_json p.up))) ++ (codes ",\"version\":" ++ decimal version) ++ codes "}"
    ≡ old ++ members_text true (placement_members p version)
unfolding escape_byte
placement_by_pieces old p version =
    six old (codes ",\"primary\":" ++ compact_text (slot_json p.primary)) (codes ",\"raw\":" ++ compact_text (list_json (map slot_json p.raw)))
    (codes ",\"seed\":" ++ decimal p.seed) (codes ",\"up\":" ++ compact_text (list_json (map slot_json p.up))) (codes ",\"version\":" ++ decimal version) (codes "}")

-- ---- the whole replies

pub group_by_pieces : (inventory : Inventory) (group : ℕ) (p : Placement)
    → (codes "{\"epoch\":" ++ decimal inventory.epoch) ++ (codes ",\"group\":" ++ decimal group) ++ members_text true (placement_members p (newest inventory))
    ≡ compact_text (group_reply inventory group p)
unfolding escape_byte
group_by_pieces inventory group p =
    append_assoc (codes "{\"epoch\":" ++ decimal inventory.epoch) (codes ",\"group\":" ++ decimal group) (members_text true (placement_members p (newest inventory)))

pub object_by_pieces : (name : List ℕ) (inventory : Inventory) (group : ℕ) (p : Placement)
    → (codes "{\"epoch\":" ++ decimal inventory.epoch) ++ (codes ",\"group\":" ++ decimal group) ++ (codes ",\"hash\":" ++ decimal (name_hash name))
    ++ members_text true (placement_members p (newest inventory))
    ≡ compact_text (object_reply name inventory group p)
unfolding escape_byte
object_by_pieces name inventory group p =
    append_assoc ((codes "{\"epoch\":" ++ decimal inventory.epoch) ++ (codes ",\"group\":" ++ decimal group)) (codes ",\"hash\":" ++ decimal (name_hash name))
    (members_text true (placement_members p (newest inventory)))
    ∙ append_assoc (codes "{\"epoch\":" ++ decimal inventory.epoch) (codes ",\"group\":" ++ decimal group)
    ((codes ",\"hash\":" ++ decimal (name_hash name)) ++ members_text true (placement_members p (newest inventory)))
