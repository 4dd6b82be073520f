-- The steps of a rule of a map are in range.
use Rattle.std.proofs.Common.{◌≡◌, ℕ, ℤ, pos, negsuc, zero, suc, ◌<◌, ◌≤◌, ◌==◌, ◌&&◌, ◌||◌, not, nat_lt, nat_le, Bool, true, false, List, [], ◌∷◌, length, slice_index_or, Option, Some, None, refl, arith}
use Rattle.std.proofs.lemmas.Bool.Decides.{nat_tests}
use Rattle.crush_map.specs.declared.fault.FaultCode.{FaultCode}
use Rattle.crush_map.specs.declared.fault.FaultCode.TheVariants.{M1, M11, M12, M14}
use Rattle.crush_map.specs.declared.draft.Step.{Step}
use Rattle.crush_map.specs.declared.draft.Step.TheVariants.{Take, SetChooseTries, SetLeafTries, SetVaryR, SetStable, Choose, Emit}
use Rattle.crush_map.specs.declared.draft.Rule.{Rule}
use Rattle.crush_map.specs.Faults.{SymbolTable, ◌when◌, or_else, first_of, has_number, is_count, choose_fault, step_fault, steps_fault, rule_checks, rule_fault}
use Rattle.crush_choose.specs.Rules.{reps}
use Rattle.crush_choose.specs.Private.Runs.{IsChoose, IsStep, no_step}
use Rattle.crush_map.specs.declared.limits.TheConstants.{TRIES_LIMIT, COUNT_LIMIT, VARY_R_LIMIT, STEP_LIMIT}
use Rattle.crush_choose.specs.declared.limits.TheConstants.{SIZE_LIMIT}

passes_first : (a b : Option FaultCode) → or_else a b ≡ None → a ≡ None
passes_first None b h = refl
passes_first (Some a) b h = cc

passes_rest : (a b : Option FaultCode) → or_else a b ≡ None → b ≡ None
passes_rest None b h = h
passes_rest (Some a) b h = cc

test_fails : (code : FaultCode) (test : Bool) → (code when test) ≡ None → test ≡ false
test_fails code true h = cc
test_fails code false h = refl

-- no check of a list finds a fault
passes : (checks : List (Option FaultCode)) → first_of checks ≡ None → (i : ℕ) → slice_index_or checks i None ≡ None
passes [] h i = refl
passes (check ∷ checks) h zero = passes_first check _ h
passes (check ∷ checks) h (suc i) = passes checks (passes_rest check _ h) i

few_of : (n : ℕ) → nat_lt STEP_LIMIT n ≡ false → n ≤ STEP_LIMIT
few_of n h = grind (arith, nat_tests)

few : (code : FaultCode) (limit n : ℕ) → (code when nat_lt limit n) ≡ None → n ≤ limit
few code limit n h = let e = test_fails code (nat_lt limit n) h in grind (arith, nat_tests)

not_false : (b : Bool) → not b ≡ false → b ≡ true
not_false true h = refl
not_false false h = cc

-- a count in range gives a number of reps in range
reps_few : (n : ℤ) (size : ℕ) → size ≤ SIZE_LIMIT → is_count n ≡ true → reps n size ≤ COUNT_LIMIT
reps_few (pos zero) size le h = omega arith
reps_few (pos (suc n)) size le h = let k : nat_le (suc n) COUNT_LIMIT ≡ true = h in grind (arith, nat_tests)
reps_few (negsuc n) size le h = omega arith

leaf_above : (by_firstn leaf : Bool) (wanted : ℕ) → (leaf && not by_firstn && (wanted == 0)) ≡ false → by_firstn ≡ false → wanted ≡ 0 → leaf ≡ false
leaf_above by_firstn true wanted h f e = let k = rw (f, e) at h in cc
leaf_above by_firstn false wanted h f e = refl

choose_ok : (known : SymbolTable) (by_firstn leaf : Bool) (n : ℤ) (wanted size : ℕ) → size ≤ SIZE_LIMIT → choose_fault known by_firstn leaf n wanted ≡ None → IsChoose size by_firstn leaf (reps n size) wanted
unfolding choose_fault
choose_ok known by_firstn leaf n wanted size le h =
    let rest = passes_rest (M11 when not (has_number known.types wanted)) _ h in
    let count : is_count n ≡ true = not_false _ (test_fails M12 _ (passes_first (M12 when not (is_count n)) _ rest)) in
    let last = passes_first (M14 when (leaf && not by_firstn && (wanted == 0))) _ (passes_rest (M12 when not (is_count n)) _ rest) in
    record { reps = reps_few n size le count; above_leaves = leaf_above by_firstn leaf wanted (test_fails M14 _ last) }

step_ok : (known : SymbolTable) (step : Step) (size : ℕ) → size ≤ SIZE_LIMIT → step_fault known step ≡ None → IsStep size step
unfolding step_fault
step_ok known (Take id) size le h = tt
step_ok known (SetChooseTries n) size le h = few M12 TRIES_LIMIT n h
step_ok known (SetLeafTries n) size le h = few M12 TRIES_LIMIT n h
step_ok known (SetVaryR n) size le h = few M12 VARY_R_LIMIT n h
step_ok known (SetStable n) size le h = few M12 1 n h
step_ok known (Choose by_firstn leaf n wanted) size le h = choose_ok known by_firstn leaf n wanted size le h
step_ok known Emit size le h = tt

steps_ok : (known : SymbolTable) (steps : List Step) (size : ℕ) → size ≤ SIZE_LIMIT → steps_fault known steps ≡ None → (k : ℕ) → k < length steps → IsStep size (slice_index_or steps k no_step)
steps_ok known [] size le h k lt = absurd (omega arith)
steps_ok known (step ∷ steps) size le h zero lt = step_ok known step size le (passes_first (step_fault known step) _ h)
steps_ok known (step ∷ steps) size le h (suc k) lt = steps_ok known steps size le (passes_rest (step_fault known step) _ h) k (omega arith)

right_fails : (a b : Bool) → (a || b) ≡ false → b ≡ false
right_fails true b h = cc
right_fails false b h = h

pub rule_few : (known : SymbolTable) (rule : Rule) → rule_fault known rule ≡ None → length rule.steps ≤ STEP_LIMIT
unfolding rule_fault
rule_few known rule h =
    let check : (M1 when ((length rule.steps == 0) || nat_lt STEP_LIMIT (length rule.steps))) ≡ None = passes (rule_checks known rule) h 5 in
    few_of (length rule.steps) (right_fails _ _ (test_fails M1 _ check))

pub rule_steps : (known : SymbolTable) (rule : Rule) (size : ℕ) → size ≤ SIZE_LIMIT → rule_fault known rule ≡ None → (k : ℕ) → k < length rule.steps → IsStep size (slice_index_or rule.steps k no_step)
unfolding rule_fault
rule_steps known rule size le h = steps_ok known rule.steps size le (passes (rule_checks known rule) h 6)
