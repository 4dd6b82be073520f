-- The numbers of calls, in their ranges whatever the tables are.
use Rattle.std.specs.Prelude.{◌≤◌}
use Rattle.crush_choose.specs.declared.firstn.FirstnCall.{FirstnCall}
use Rattle.crush_choose.specs.declared.indep.IndepCall.{IndepCall}
use Rattle.crush_map.specs.declared.limits.TheConstants.{TRIES_LIMIT, COUNT_LIMIT, VARY_R_LIMIT}
use Rattle.crush_choose.specs.declared.limits.TheConstants.{SIZE_LIMIT}

-- the numbers by which choose firstn tries
pub record AreFirstnNumbers (c : FirstnCall) : Type 0 where
  pub room : c.room ≤ SIZE_LIMIT
  pub tries : c.tries ≤ TRIES_LIMIT
  pub leaf_tries : c.leaf_tries ≤ TRIES_LIMIT
  pub vary_r : c.vary_r ≤ VARY_R_LIMIT
  pub stable : c.stable ≤ 1

-- the numbers by which choose indep tries
pub record AreIndepNumbers (c : IndepCall) : Type 0 where
  pub positions : c.n ≤ SIZE_LIMIT
  pub some_reps : 1 ≤ c.numrep
  pub few_reps : c.numrep ≤ COUNT_LIMIT
  pub tries : c.tries ≤ TRIES_LIMIT
  pub leaf_tries : c.leaf_tries ≤ TRIES_LIMIT
