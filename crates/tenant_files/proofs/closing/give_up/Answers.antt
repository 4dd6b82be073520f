use Rattle.std.proofs.Common.{subst, sym}
use Rattle.tenant_files.proofs.ClosedFacts.{honest_before, is_left}
use Rattle.tenant_files.specs.Closed.{IsLeft}
use Rattle.tenant_files.proofs.closing.give_up.Goals as goal

pub returns-clause-given : goal.returns-clause-given
returns-clause-given g c =
    subst (λ conn. IsLeft conn c.close.result) c.close-conn.ensures.same
    (is_left c.close-conn.result c.into_store.result c.close.result (sym c.close.ensures) (record { quiet = c.into_store.ensures.quiet; sound = c.into_store.ensures.sound }))

pub returns-clause-honest : goal.returns-clause-honest
returns-clause-honest g c = honest_before c.args.store c.close-conn.result c.close-conn.ensures.same c.close-conn.ensures.honest
