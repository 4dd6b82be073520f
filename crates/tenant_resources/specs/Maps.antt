-- Maps, at `/t/{t}/maps`: POST adds a version of the tenant's map, from a text. At
-- `/t/{t}/maps/{v}` GET reads the version v.
use Rattle.std.specs.Prelude.{ℕ, suc, List, [], ◌∷◌, length, nat_le, if◌then◌else◌, Option, Some, None, option_and_then, Result, Ok, Err, codes}
use Rattle.serde_json.specs.Data.{Data, string, object}
use Rattle.serde_json.specs.Find.{as_str}
use Rattle.crush_text.specs.crush_grammar.specs.declared.code.TextFault.{TextFault}
use Rattle.crush_map.specs.Map.{Map}
use Rattle.crush_text.specs.crush_writing.specs.Canonical.{canonical}
use Rattle.crush_text.specs.Reading.{map_of_text}
use Rattle.tenant_resources.specs.Orders.{Acceptance}
use Rattle.tenant_messages.specs.Forms.{IsText, HasExactly, IsUnder}
use Rattle.tenant_messages.specs.Json.{value_of, both, has_keys, under}
use Rattle.tenant_messages.specs.Numbers.{IsRequestNumber, request_number_of}
use Rattle.tenant_messages.specs.Reply.{Answer, refused, success, members_of, natural}
use Rattle.tenant_state.specs.declared.limits.TheConstants.{VERSION_LIMIT}
use Rattle.tenant_state.specs.State.{Inventory, NewVersion, has_rules_of, newest, version}
use Rattle.tenant_messages.specs.declared.reply.Problem.{Problem}
use Rattle.tenant_messages.specs.declared.reply.Problem.TheVariants.{NoVersion, RuleInUse, MapRefused, TenantLimit}
use Rattle.tenant_messages.specs.declared.reply.SuccessStatus.TheVariants.{Created}

-- ---- the form of the body of an import

-- {"request": REQUEST, "text": TEXT}
pub record IsImportBody (d : Data) (asked : List ℕ × List ℕ) : Type 0 where
  pub keys : HasExactly (codes "request" ∷ codes "text" ∷ []) d
  pub request : IsUnder (codes "request") IsRequestNumber d asked.0
  pub text : IsUnder (codes "text") IsText d asked.1

-- ---- reading a body

-- an import is read exactly where the body has that form (law `imports_are_of_the_form`)

-- the request number, and the text
abbrev pub import_of : Data → Option (List ℕ × List ℕ)
import_of d =
    if has_keys 2 d then both (λ number text. (number, text)) (under (codes "request") request_number_of d) (under (codes "text") as_str d) else None

abbrev pub import_request_of : List ℕ → Option (List ℕ × List ℕ)
import_request_of body = option_and_then import_of (value_of body)

-- ---- importing a text

-- {"epoch": E, "version": V}
abbrev pub import_reply : Inventory → Data
import_reply inventory = object (members_of ((codes "epoch", natural (suc inventory.epoch)) ∷ (codes "version", natural (suc (newest inventory))) ∷ []))

-- each pool's rule has to be in the new map
abbrev pub on_text : Inventory → Result Map TextFault → Result Acceptance Problem
on_text inventory (Err fault) = Err (MapRefused fault)
on_text inventory (Ok m) =
    if has_rules_of inventory.pools m then Ok (record { made = NewVersion m; status = Created; body = import_reply inventory })
    else Err RuleInUse

abbrev pub imported : List ℕ → Inventory → Result Acceptance Problem
imported text inventory = if nat_le VERSION_LIMIT (length inventory.versions) then Err TenantLimit else on_text inventory (map_of_text text)

-- ---- reading a version

-- {"text": the canonical text, "version": V}
abbrev pub version_reply : ℕ → Map → Data
version_reply number m = object (members_of ((codes "text", string (canonical m)) ∷ (codes "version", natural number) ∷ []))

abbrev pub on_version : ℕ → Option Map → Answer
on_version number None = refused NoVersion
on_version number (Some m) = success (version_reply number m)

abbrev pub answer : ℕ → Inventory → Answer
answer number inventory = on_version number (version number inventory)
