use Rattle.std.proofs.Common.{◌≡◌, ◌<◌, ◌≤◌, length, false, subst, Option, ℕ, arith}
use Rattle.tenant_core.specs.Alone.{is_answered}
use Rattle.crush_server.specs.tenant_service.specs.History.{IsSilentFrom}
use Rattle.crush_laws.proofs.Answered.{is_503}
use Rattle.crush_laws.proofs.Lists.{all_from}
use Rattle.crush_laws.proofs.sessions.from_its_doubt_on_a_session_is_silent.Goals as goal
use Rattle.tenant_core.specs.tenant_messages.specs.declared.reply.Reply.{Reply}

pub returns-clause-within : goal.returns-clause-within
returns-clause-within c = λ t session doubt sound is.
    let silent = subst (λ (d : Option ℕ). IsSilentFrom d session.replies) is sound.silent in
    omega (arith, silent.0, sound.count)

pub returns-clause-silent : goal.returns-clause-silent
returns-clause-silent c = λ t session doubt place reply sound is from at.
    let silent = subst (λ (d : Option ℕ). IsSilentFrom d session.replies) is sound.silent in
    is_503 reply (all_from (λ (r : Reply). is_answered r ≡ false) doubt session.replies place reply silent.1 from at)
