use Rattle.std.proofs.Common.{Result, inr, subst}
use Rattle.tenant_files.proofs.RefusedFacts.{given_back}
use Rattle.tenant_files.specs.Closed.{GivesBack}
use Rattle.tenant_files.specs.declared.fault.FileFault.{FileFault}
use Rattle.tenant_files.proofs.closing.give_back.Goals as goal

pub returns : goal.returns
returns g c image opening =
    let closed = c.give_up-closed in
    inr (given_back g.met.D.Disk.seen_may_stay image c.args.store closed.result.files c.requires.works closed.ensures.honest
    (subst (λ (r : Result (Unit {0}) FileFault). GivesBack c.args.store.0 r closed.result.files) closed.ensures.failed closed.ensures.given) opening)
