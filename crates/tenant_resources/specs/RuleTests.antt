-- Tests of rules, at `/t/{t}/test`: POST asks which items a rule of a version of the tenant's map
-- gives for an input.
use Rattle.std.specs.Prelude.{ℕ, ◌≤◌, ◌+◌, List, [], ◌∷◌, ◌++◌, map, nat_le, if◌then◌else◌, Option, Some, None, option_and_then, unwrap_or, codes}
use Rattle.serde_json.specs.Data.{Data, object}
use Rattle.crush_bucket.specs.Tables.{tables_of}
use Rattle.crush_choose.specs.Marks.{Slot}
use Rattle.crush_choose.specs.Rules.{rule_answer}
use Rattle.crush_choose.specs.Trace.{rule_trace}
use Rattle.crush_choose.specs.Weights.{weights_of}
use Rattle.crush_choose.specs.declared.limits.TheConstants.{SIZE_LIMIT}
use Rattle.crush_map.specs.Map.{Map}
use Rattle.crush_map.specs.declared.limits.TheConstants.{RULE_ID_LIMIT}
use Rattle.crush_map.specs.declared.draft.Rule.{Rule}
use Rattle.crush_pool.specs.Placements.{rule_numbered}
use Rattle.crush_pool.specs.States.{reweights}
use Rattle.tenant_messages.specs.Forms.{IsNatural, IsOptional, if_any, HasExactly, IsUnder}
use Rattle.tenant_messages.specs.Json.{value_of, natural_of, both, has_keys, under, optional, present}
use Rattle.tenant_messages.specs.Reply.{Answer, refused, success, members_of, natural}
use Rattle.tenant_messages.specs.Slots.{slot_json, list_json}
use Rattle.tenant_state.specs.State.{Inventory, newest, version}
use Rattle.tenant_messages.specs.declared.reply.Problem.TheVariants.{NoVersion, NoRule}

-- a test: the rule with the id `rule` gives at most `size` items for the input `x`, on the version
-- `version`, or else on the newest
pub record RuleTest : Type 0 where
  pub rule : ℕ
  pub size : ℕ
  pub x : ℕ
  pub version : Option ℕ

-- ---- the form of a body, and the test that it says

-- {"rule": 0..RULE_ID_LIMIT, "size": 1..SIZE_LIMIT, "x": 0..4294967295}, and if need be "version":
-- 0..4294967295
pub record IsTestBody (d : Data) (t : RuleTest) : Type 0 where
  pub keys : HasExactly (if_any (codes "version") t.version ++ codes "rule" ∷ codes "size" ∷ codes "x" ∷ []) d
  pub rule : IsUnder (codes "rule") (IsNatural RULE_ID_LIMIT) d t.rule
  pub size : IsUnder (codes "size") (IsNatural SIZE_LIMIT) d t.size
  pub some : 1 ≤ t.size
  pub x : IsUnder (codes "x") (IsNatural 4294967295) d t.x
  pub version : IsOptional (codes "version") (IsNatural 4294967295) d t.version

-- ---- reading a body

-- a test is read exactly where the body has that form (law `tests_are_of_the_form`)

abbrev pub test_with : ℕ × ℕ → ℕ × Option ℕ → RuleTest
test_with asked on = record { rule = asked.0; size = asked.1; x = on.0; version = on.1 }

abbrev pub if_some : RuleTest → Option RuleTest
if_some t = if nat_le 1 t.size then Some t else None

abbrev pub test_of : Data → Option RuleTest
test_of d =
    if has_keys (present (codes "version") d + 3) d then
    option_and_then if_some (both test_with
    (both (λ rule size. (rule, size)) (under (codes "rule") (natural_of RULE_ID_LIMIT) d) (under (codes "size") (natural_of SIZE_LIMIT) d))
    (both (λ x version. (x, version)) (under (codes "x") (natural_of 4294967295) d) (optional (codes "version") (natural_of 4294967295) d))) else None

abbrev pub test_request_of : List ℕ → Option RuleTest
test_request_of body = option_and_then test_of (value_of body)

-- ---- the answer

-- {"epoch": E, "items": [..], "trace": [..], "version": V}
abbrev pub outcome : ℕ → ℕ → List Slot → List ℕ → Data
outcome e v items trace =
    object (members_of ((codes "epoch", natural e) ∷ (codes "items", list_json (map slot_json items))
    ∷ (codes "trace", list_json (map natural trace)) ∷ (codes "version", natural v) ∷ []))

-- what the steps give for an input, with these reweights of devices
abbrev pub test_reply : ℕ → ℕ → Map → List ℕ → Rule → ℕ → ℕ → Data
test_reply e v m weights rule x size =
    outcome e v (rule_answer (tables_of m) weights rule.steps x size) (rule_trace (tables_of m) weights rule.steps x size)

abbrev pub on_rule : RuleTest → Inventory → ℕ → Map → Option Rule → Answer
on_rule t inventory v m None = refused NoRule
on_rule t inventory v m (Some rule) = success (test_reply inventory.epoch v m (weights_of (reweights inventory.devices)) rule t.x t.size)

abbrev pub on_version : RuleTest → Inventory → ℕ → Option Map → Answer
on_version t inventory v None = refused NoVersion
on_version t inventory v (Some m) = on_rule t inventory v m (rule_numbered m t.rule)

-- the version that the body names, or else the newest, with the states of devices as they are now
abbrev pub answer : RuleTest → Inventory → Answer
answer t inventory = let v = unwrap_or t.version (newest inventory) in on_version t inventory v (version v inventory)
