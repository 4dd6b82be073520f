-- The bodies of replies with items have no number with a point or an exponent.
use Rattle.std.proofs.Common.{◌≡◌, ℕ, List, [], ◌∷◌, map, false, refl}
use Rattle.serde_json.specs.View.{items_of}
use Rattle.serde_json.specs.Written.{has_float, items_have_float}
use Rattle.crush_bucket.specs.Tables.{tables_of}
use Rattle.crush_choose.specs.Marks.{Slot}
use Rattle.crush_choose.specs.Rules.{rule_answer}
use Rattle.crush_choose.specs.Trace.{rule_trace}
use Rattle.crush_map.specs.Map.{Map}
use Rattle.crush_map.specs.declared.draft.Rule.{Rule}
use Rattle.crush_pool.specs.declared.exceptions.Pair.{Pair}
use Rattle.tenant_messages.proofs.PlainSlots.{slots_plain, ids_plain}
use Rattle.tenant_resources.specs.Exceptions.{exceptions_reply, pair_json}
use Rattle.tenant_resources.specs.RuleTests.{outcome, test_reply}
use Rattle.tenant_state.specs.State.{Inventory, TenantPool}

-- ---- exceptions

pairs_plain : (pairs : List Pair) → items_have_float (items_of (map pair_json pairs)) ≡ false
pairs_plain [] = refl
pairs_plain (p ∷ pairs) = pairs_plain pairs

pub exceptions_plain : (inventory : Inventory) (p : TenantPool) → has_float (exceptions_reply inventory p) ≡ false
exceptions_plain inventory p = rw (pairs_plain p.pairs) refl

-- ---- rule tests

outcome_plain : (e v : ℕ) (slots : List Slot) (ids : List ℕ) → has_float (outcome e v slots ids) ≡ false
outcome_plain e v slots ids = rw (slots_plain slots, ids_plain ids) refl

pub tested_plain : (e v : ℕ) (m : Map) (weights : List ℕ) (rule : Rule) (x size : ℕ) → has_float (test_reply e v m weights rule x size) ≡ false
tested_plain e v m weights rule x size = outcome_plain e v (rule_answer (tables_of m) weights rule.steps x size) (rule_trace (tables_of m) weights rule.steps x size)
