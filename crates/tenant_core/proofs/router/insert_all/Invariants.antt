use Rattle.std.proofs.Common.{◌≡◌, true, fold, map, length}
use Rattle.tenant_core.specs.Private.Inserting.{are_new}
use Rattle.tenant_core.specs.Router.{with_path}
use Rattle.tenant_core.proofs.router.insert_all.Given as goal

-- the remaining paths are new to the router so far, and with them it becomes the whole
abbrev pub invariant-loop-rest : goal.invariant-loop-rest
invariant-loop-rest l = record {
  new : are_new (map (λ row. (row.0.now, row.1)) l.rest) l.router ≡ true;
  whole : fold with_path l.router (map (λ row. (row.0.now, row.1)) l.rest) ≡ fold with_path l.initial.router (map (λ row. (row.0.now, row.1)) l.rows);
}

abbrev pub decreases-loop-rest : goal.decreases-loop-rest
decreases-loop-rest l = length l.rest
