-- What is said of the connection is said of the store's.
use Rattle.std.proofs.Common.{subst, sym}
use Rattle.sqlite.specs.Closing.{IsCopied}
use Rattle.tenant_files.proofs.ClosedFacts.{honest_before, is_left}
use Rattle.tenant_files.specs.Closed.{IsLeft}
use Rattle.tenant_files.specs.Closing.{FailsToCopy}
use Rattle.tenant_files.proofs.closing.close_store.Goals as goal

pub returns-in-Ok-clause-given : goal.returns-in-Ok-clause-given
returns-in-Ok-clause-given g c clean = subst (λ conn. IsCopied conn c.in-Ok.files) c.close-conn.ensures.same (c.in-Ok.ensures.copied clean)

pub returns-in-Ok-clause-honest : goal.returns-in-Ok-clause-honest
returns-in-Ok-clause-honest g c = honest_before c.args.store c.close-conn.result c.close-conn.ensures.same c.close-conn.ensures.honest

-- the log wasn't copied
pub returns-in-Err-clause-given : goal.returns-in-Err-clause-given
returns-in-Err-clause-given g c =
    subst (λ conn. IsLeft conn c.close.result) c.close-conn.ensures.same (is_left c.close-conn.result c.in-Err.left c.close.result (sym c.close.ensures) c.in-Err.ensures.err.0)

pub returns-in-Err-clause-cause : goal.returns-in-Err-clause-cause
returns-in-Err-clause-cause g c =
    subst (λ conn. FailsToCopy conn c.close.result c.fault_of.result) c.close-conn.ensures.same (c.in-Err.left, c.in-Err.error, sym c.close.ensures, c.in-Err.ensures.err.1, c.fault_of.ensures)

pub returns-in-Err-clause-honest : goal.returns-in-Err-clause-honest
returns-in-Err-clause-honest g c = honest_before c.args.store c.close-conn.result c.close-conn.ensures.same c.close-conn.ensures.honest
