use Rattle.crush_laws.proofs.Answered.{is_no_503, reply_at}
use Rattle.crush_laws.proofs.sessions.each_acknowledgement_is_that_of_a_step.Goals as goal

pub returns : goal.returns
returns c = λ t session place call reply sound is.
    reply_at t (session.found t) session.calls session.replies place call reply sound.replies is.called is.replied is.own (is_no_503 reply is.answered)
