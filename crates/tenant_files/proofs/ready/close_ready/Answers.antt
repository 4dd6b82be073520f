-- What is said of the store below is said of the ready store.
use Rattle.std.proofs.Common.{◌∙◌, IfErr, ap, subst}
use Rattle.sqlite.specs.Files.{file_state, over_files}
use Rattle.sqlite.specs.State.{HasCleanDisk}
use Rattle.tenant_store.specs.Shown.{IsHonest}
use Rattle.tenant_files.specs.Closed.{GivesBack}
use Rattle.tenant_files.specs.Closing.{FailsToCopy}
use Rattle.tenant_files.proofs.ready.close_ready.Goals as goal

-- ---- it failed for good

pub returns-then-has_failed-clause-given : goal.returns-then-has_failed-clause-given
returns-then-has_failed-clause-given g c =
    let back = c.into_below-store.ensures ∙ ap (λ x. x.0.0) c.into_below-watched.ensures in
    subst (λ x. GivesBack x.0 c.give_up.result.copied c.give_up.result.files) back c.give_up.ensures.given

pub returns-then-has_failed-clause-honest : goal.returns-then-has_failed-clause-honest
returns-then-has_failed-clause-honest g c =
    let back = c.into_below-store.ensures ∙ ap (λ x. x.0.0) c.into_below-watched.ensures in
    subst (λ x. HasCleanDisk (file_state x.0) → IsHonest over_files x) back c.give_up.ensures.honest

-- ---- it works

pub returns-else-has_failed-clause-given : goal.returns-else-has_failed-clause-given
returns-else-has_failed-clause-given g c =
    let back = c.into_below-store.ensures ∙ ap (λ x. x.0.0) c.into_below-watched.ensures in
    subst (λ x. GivesBack x.0 c.close_store.result.copied c.close_store.result.files) back c.close_store.ensures.given

pub returns-else-has_failed-clause-cause : goal.returns-else-has_failed-clause-cause
returns-else-has_failed-clause-cause g c works =
    let back = c.into_below-store.ensures ∙ ap (λ x. x.0.0) c.into_below-watched.ensures in
    subst (λ x. IfErr c.close_store.result.copied (FailsToCopy x.0 c.close_store.result.files)) back c.close_store.ensures.cause

pub returns-else-has_failed-clause-honest : goal.returns-else-has_failed-clause-honest
returns-else-has_failed-clause-honest g c =
    let back = c.into_below-store.ensures ∙ ap (λ x. x.0.0) c.into_below-watched.ensures in
    subst (λ x. HasCleanDisk (file_state x.0) → IsHonest over_files x) back c.close_store.ensures.honest
