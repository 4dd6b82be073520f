-- The values that a rule's run stores, their ranges, and what they mean in the definitions.
use Rattle.std.specs.Prelude.{◌≡◌, ℕ, pos, ◌*◌, ◌≤◌, length, vec_len, vec_capacity, Bool, false}
use Rattle.crush_map.specs.declared.draft.Step.{Step}
use Rattle.crush_map.specs.declared.draft.Step.TheVariants.{Take, SetChooseTries, SetLeafTries, SetVaryR, SetStable, Choose, Emit}
use Rattle.crush_choose.specs.declared.plan.Plan.{Plan}
use Rattle.crush_choose.specs.declared.rule.Settings as kept
use Rattle.crush_choose.specs.declared.rule.Run.{Run}
use Rattle.crush_choose.specs.Rules.{ChooseCall, Settings, Running, reps}
use Rattle.crush_map.specs.declared.limits.TheConstants.{TRIES_LIMIT, COUNT_LIMIT, VARY_R_LIMIT}
use Rattle.crush_choose.specs.declared.limits.TheConstants.{SIZE_LIMIT, TRACE_LIMIT}

-- a plan in range
pub record IsPlan (p : Plan) : Type 0 where
  pub reps : p.numrep ≤ COUNT_LIMIT
  pub some_tries : 1 ≤ p.tries
  pub few_tries : p.tries ≤ TRIES_LIMIT
  pub leaf_tries : p.leaf_tries ≤ TRIES_LIMIT
  pub vary_r : p.vary_r ≤ VARY_R_LIMIT
  pub stable : p.stable ≤ 1
  pub above_leaves : p.firstn ≡ false → p.wanted ≡ 0 → p.leaf_tries ≡ 0

-- the definitions' call of a plan
abbrev pub call_of : Plan → ChooseCall
call_of p =
    record { firstn = p.firstn; leaf = p.leaf; x = p.x; numrep = p.numrep; wanted = p.wanted; tries = p.tries; leaf_tries = p.leaf_tries; vary_r = p.vary_r; stable = p.stable }

-- settings in range
pub record AreSettings (s : kept.Settings) : Type 0 where
  pub some_tries : 1 ≤ s.tries
  pub few_tries : s.tries ≤ TRIES_LIMIT
  pub leaf_tries : s.leaf_tries ≤ TRIES_LIMIT
  pub vary_r : s.vary_r ≤ VARY_R_LIMIT
  pub stable : s.stable ≤ 1

-- the definitions' settings of those that the code stores
abbrev pub settings_in : kept.Settings → Settings
settings_in s = record { tries = s.tries; leaf_tries = s.leaf_tries; vary_r = s.vary_r; stable = s.stable }

abbrev pub state_of : Run → Running
state_of r = record { settings = settings_in r.settings; working = r.working; emitted = r.emitted; made = r.made.items }

-- the bounds of a run after k steps
pub record IsRun (size k : ℕ) (r : Run) : Type 0 where
  pub settings : AreSettings r.settings
  pub emitted : length r.emitted ≤ size
  pub made : vec_len r.made ≤ SIZE_LIMIT * k
  pub capacity : TRACE_LIMIT ≤ vec_capacity r.made

-- a choose step in range
pub record IsChoose (size : ℕ) (by_firstn leaf : Bool) (numrep wanted : ℕ) : Type 0 where
  pub reps : numrep ≤ COUNT_LIMIT
  pub above_leaves : by_firstn ≡ false → wanted ≡ 0 → leaf ≡ false

-- a step in range
abbrev pub IsStep : ℕ → Step → Type 0
IsStep size (Take item) = Unit {0}
IsStep size (SetChooseTries n) = n ≤ TRIES_LIMIT
IsStep size (SetLeafTries n) = n ≤ TRIES_LIMIT
IsStep size (SetVaryR n) = n ≤ VARY_R_LIMIT
IsStep size (SetStable n) = n ≤ 1
IsStep size (Choose by_firstn leaf n wanted) = IsChoose size by_firstn leaf (reps n size) wanted
IsStep size Emit = Unit {0}

-- a value for the places after the last step
abbrev pub no_step : Step
no_step = Take (record { 0 = pos 0 })
