use Rattle.std.proofs.Common.{◌≡◌, inl}
use Rattle.crush_laws.proofs.Kept.{keeps_acknowledged, keeps_no_other, keeps_none, keeps_own, may_keep_own}
use Rattle.crush_laws.proofs.sessions.each_acknowledged_call_is_kept.Goals as goal

pub returns-clause-acknowledged : goal.returns-clause-acknowledged
returns-clause-acknowledged c = keeps_acknowledged

pub returns-clause-no_other : goal.returns-clause-no_other
returns-clause-no_other c = keeps_no_other

pub returns-clause-none : goal.returns-clause-none
returns-clause-none c = λ t session part none. (λ kept. keeps_none t session part none kept, λ e. inl e)

pub returns-clause-own : goal.returns-clause-own
returns-clause-own c = λ t session part place call is own.
    (λ kept. keeps_own t session part place call is own kept, λ either. may_keep_own t session part place call is own either)
