use Rattle.std.proofs.Common.{refl}
use Rattle.matchit.proofs.OnLiterals.{matchit_on_literals}
use Rattle.tenant_core.specs.Router.{table}
use Rattle.tenant_core.proofs.router.Routes.build.Goals as goal

-- each path is well formed, and conflicts with none before it
pub insert_all-requires : goal.insert_all-requires
unfolding matchit_on_literals
insert_all-requires c = rw c.new-router.ensures refl

-- one after the other they are the table
pub invariant_of-result : goal.invariant_of-result
unfolding table
invariant_of-result c = record { whole = rw (c.in_ok-insert_all.ensures, c.new-router.ensures) refl }
