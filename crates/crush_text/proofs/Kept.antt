-- What is known of a bucket and of a rule that have no fault.
use Rattle.std.proofs.Common.{◌≡◌, ◌∙◌, ◌≤◌, ◌&&◌, false, Option, Some, None, List, [], ◌∷◌, ℕ, refl, map, length, nat_lt, arith}
use Rattle.std.proofs.lemmas.Bool.Decides.{nat_tests}
use Rattle.std.specs.List.{filter_map, cons_option, list_any}
use Rattle.crush_map.specs.declared.limits.TheConstants.{ITEM_LIMIT, NUMBER_LIMIT, TOTAL_WEIGHT_LIMIT}
use Rattle.crush_map.specs.declared.fault.FaultCode.{FaultCode}
use Rattle.crush_map.specs.declared.fault.FaultCode.TheVariants.{M1, M7, M12}
use Rattle.crush_map.specs.declared.draft.Device.{Device}
use Rattle.crush_map.specs.declared.draft.Bucket.{Bucket}
use Rattle.crush_map.specs.declared.draft.Step.{Step}
use Rattle.crush_map.specs.crush_types.specs.Kinds.{is_straw2}
use Rattle.crush_map.specs.crush_types.specs.Weights.{total_weight}
use Rattle.crush_map.specs.Faults.{SymbolTable, first_of, ◌when◌, device_fault, device_checks, bucket_fault, bucket_checks, contents_fault, items_fault, is_heavy, is_too_heavy, no_ids, rule_fault, rule_head_fault, rule_head_checks, steps_fault}
use Rattle.crush_grammar.specs.declared.declaration.Setting.TheVariants as settings
use Rattle.crush_grammar.specs.declared.declaration.DeclaredRule.{DeclaredRule}
use Rattle.crush_grammar.specs.declared.declaration.DeclaredStep.{DeclaredStep}
use Rattle.crush_grammar.specs.declared.declaration.DeclaredStep.TheVariants as steps
use Rattle.crush_text.specs.Judging.{Declared, at_line, declared_step_fault, declared_rule_fault, kept_step_fault, step_of, rule_of}
use Rattle.crush_text.proofs.Checks.{first_none, second_none, both_none, passes, fails, left_false, last_of}

at_most : (n m : ℕ) → nat_lt m n ≡ false → n ≤ m
at_most n m h = grind (arith, nat_tests)

-- the id of a device without a fault
pub is_small : (known : SymbolTable) (d : Device) → device_fault known d ≡ None → d.id ≤ NUMBER_LIMIT
unfolding device_fault
is_small known d h = at_most _ _ (fails M12 _ (passes (device_checks known d) 1 (M12 when nat_lt NUMBER_LIMIT d.id) refl h))

pub is_few : (known : SymbolTable) (b : Bucket) → bucket_fault known b ≡ None → length b.items ≤ ITEM_LIMIT
unfolding bucket_fault
is_few known b h = at_most _ _ (fails M1 _ (passes (bucket_checks known b) 7 (M1 when nat_lt ITEM_LIMIT (length b.items)) refl h))

light_by : (known : SymbolTable) (b : Bucket) → contents_fault known b.alg b.items ≡ None → total_weight b.items ≤ TOTAL_WEIGHT_LIMIT
unfolding contents_fault
light_by known b h =
    at_most _ _ (left_false _ (is_straw2 b.alg && list_any is_heavy b.items) (fails M7 _ (first_none (M7 when is_too_heavy b.alg b.items) None (second_none _ _ (second_none (items_fault known no_ids b.items) _ h)))))

pub is_light : (known : SymbolTable) (b : Bucket) → bucket_fault known b ≡ None → total_weight b.items ≤ TOTAL_WEIGHT_LIMIT
unfolding bucket_fault
is_light known b h = light_by known b (passes (bucket_checks known b) 8 (contents_fault known b.alg b.items) refl h)

pub no_fault : (line : ℕ) (o : Option FaultCode) → at_line line o ≡ None → o ≡ None
no_fault line None h = refl
no_fault line (Some code) h = cc

-- ---- rules

kept_step : (s : Declared) (step : DeclaredStep) → declared_step_fault s step ≡ None → kept_step_fault s.known (step_of s.draft step) ≡ None
kept_step s (steps.Set settings.LocalTries n) h = refl
kept_step s (steps.Set settings.LocalFallbackTries n) h = refl
kept_step s (steps.Set settings.ChooseTries n) h = h
kept_step s (steps.Set settings.LeafTries n) h = h
kept_step s (steps.Set settings.VaryR n) h = h
kept_step s (steps.Set settings.Stable n) h = h
kept_step s (steps.Take name) h = h
kept_step s (steps.Choose firstn leaf n wanted) h = h
kept_step s steps.Emit h = h

one_more : (known : SymbolTable) (o : Option Step) (kept : List Step) → kept_step_fault known o ≡ None → steps_fault known kept ≡ None → steps_fault known (cons_option o kept) ≡ None
one_more known None kept h k = k
one_more known (Some step) kept h k = both_none _ _ h k

kept_steps : (s : Declared) (xs : List DeclaredStep) → first_of (map (declared_step_fault s) xs) ≡ None → steps_fault s.known (filter_map (step_of s.draft) xs) ≡ None
kept_steps s [] h = refl
kept_steps s (x ∷ xs) h =
    one_more s.known (step_of s.draft x) (filter_map (step_of s.draft) xs)
    (kept_step s x (first_none (declared_step_fault s x) _ h))
    (kept_steps s xs (second_none (declared_step_fault s x) _ h))

-- a rule without a fault is one of the draft without one
pub rule_passes : (s : Declared) (r : DeclaredRule) → declared_rule_fault s r ≡ None → rule_fault s.known (rule_of s.draft r) ≡ None
unfolding declared_rule_fault rule_fault rule_head_fault
rule_passes s r h =
    let head : first_of (rule_head_checks s.known (rule_of s.draft r)) ≡ None = first_none _ _ h in
    let kept = kept_steps s r.steps (second_none (first_of (rule_head_checks s.known (rule_of s.draft r))) _ h) in
    last_of (rule_head_checks s.known (rule_of s.draft r)) (steps_fault s.known (rule_of s.draft r).steps) ∙ both_none _ _ head kept
