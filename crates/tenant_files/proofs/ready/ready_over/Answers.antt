-- There was no memory, and the store below is closed.
use Rattle.std.proofs.Common.{◌∙◌, IfErr, ap, subst}
use Rattle.sqlite.specs.Files.{file_state, over_files}
use Rattle.sqlite.specs.State.{HasCleanDisk}
use Rattle.tenant_store.specs.Shown.{IsHonest}
use Rattle.tenant_files.specs.Closed.{GivesBack}
use Rattle.tenant_files.specs.Closing.{FailsToCopy}
use Rattle.tenant_files.proofs.ready.ready_over.Goals as goal

pub returns-in-Err-clause-given : goal.returns-in-Err-clause-given
returns-in-Err-clause-given g c =
    let closed = c.close_store in
    let back = c.into_below.ensures ∙ ap (λ x. x.0.0) (c.in-Err.ensures.refused ∙ c.over-watched.ensures) in
    subst (λ x. GivesBack x.0 closed.result.copied closed.result.files) back closed.ensures.given

pub returns-in-Err-clause-cause : goal.returns-in-Err-clause-cause
returns-in-Err-clause-cause g c =
    let closed = c.close_store in
    let back = c.into_below.ensures ∙ ap (λ x. x.0.0) (c.in-Err.ensures.refused ∙ c.over-watched.ensures) in
    subst (λ x. IfErr closed.result.copied (FailsToCopy x.0 closed.result.files)) back closed.ensures.cause

pub returns-in-Err-clause-honest : goal.returns-in-Err-clause-honest
returns-in-Err-clause-honest g c =
    let back = c.into_below.ensures ∙ ap (λ x. x.0.0) (c.in-Err.ensures.refused ∙ c.over-watched.ensures) in
    subst (λ x. HasCleanDisk (file_state x.0) → IsHonest over_files x) back c.close_store.ensures.honest
