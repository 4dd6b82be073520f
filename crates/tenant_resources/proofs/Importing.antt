-- The import of a text.
use Rattle.std.proofs.Common.{◌≡◌, ℕ, List, length, true, false, nat_le, Ok, Err, refl}
use Rattle.serde_json.specs.Data.{Data}
use Rattle.crush_text.specs.crush_grammar.specs.declared.code.TextFault.{TextFault}
use Rattle.crush_map.specs.Map.{Map}
use Rattle.crush_text.specs.Reading.{map_of_text}
use Rattle.tenant_resources.specs.Maps.{imported, import_reply}
use Rattle.tenant_state.specs.declared.limits.TheConstants.{VERSION_LIMIT}
use Rattle.tenant_state.specs.State.{Inventory, NewVersion, has_rules_of}
use Rattle.tenant_messages.specs.declared.reply.Problem.TheVariants.{RuleInUse, MapRefused}
use Rattle.tenant_messages.specs.declared.reply.SuccessStatus.TheVariants.{Created}

pub of_fault : (text : List ℕ) (inventory : Inventory) (f : TextFault) → nat_le VERSION_LIMIT (length inventory.versions) ≡ false → map_of_text text ≡ Err f → imported text inventory ≡ Err (MapRefused f)
of_fault text inventory f few is = rw (few, is) refl

pub of_rule_in_use : (text : List ℕ) (inventory : Inventory) (m : Map) → nat_le VERSION_LIMIT (length inventory.versions) ≡ false → map_of_text text ≡ Ok m
    → has_rules_of inventory.pools m ≡ false → imported text inventory ≡ Err RuleInUse
of_rule_in_use text inventory m few is lacks = rw (few, is, lacks) refl

pub of_map : (text : List ℕ) (inventory : Inventory) (m n : Map) (body : Data) → nat_le VERSION_LIMIT (length inventory.versions) ≡ false → map_of_text text ≡ Ok m
    → has_rules_of inventory.pools m ≡ true → n ≡ m → body ≡ import_reply inventory
    → imported text inventory ≡ Ok (record { made = NewVersion n; status = Created; body = body })
of_map text inventory m n body few is has same written = rw (few, is, has, same, written) refl
