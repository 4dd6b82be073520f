use Rattle.std.proofs.Common.{◌≡◌, inl}
use Rattle.crush_laws.proofs.Doubtful.{leaves_acknowledged, leaves_one_more, leaves_uncalled, may_leave_one_more}
use Rattle.crush_laws.proofs.sessions.a_session_leaves_what_was_acknowledged.Goals as goal

pub returns-clause-none : goal.returns-clause-none
returns-clause-none c = λ t session state none. (λ leaves. leaves_acknowledged t session state none leaves, λ e. inl e)

pub returns-clause-own : goal.returns-clause-own
returns-clause-own c = λ t session place call state is own.
    (λ leaves. leaves_one_more t session place call state is own leaves, λ either. may_leave_one_more t session place call state is own either)

pub returns-clause-uncalled : goal.returns-clause-uncalled
returns-clause-uncalled c = leaves_uncalled
