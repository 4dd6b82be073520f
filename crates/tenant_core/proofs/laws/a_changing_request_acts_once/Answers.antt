use Rattle.std.proofs.Common.{◌∙◌, ap}
use Rattle.tenant_messages.specs.Reply.{reply}
use Rattle.tenant_core.proofs.Once.{accepts, receipt_found, receipt_stays, repeats}
use Rattle.tenant_core.proofs.laws.a_changing_request_acts_once.Goals as goal

pub returns-clause-receipt : goal.returns-clause-receipt
returns-clause-receipt c = receipt_found

pub returns-clause-stays : goal.returns-clause-stays
returns-clause-stays c = receipt_stays

pub returns-clause-effect : goal.returns-clause-effect
returns-clause-effect c = λ k s u d h there. ap (λ x. x.effect) (repeats k s u d h there)

pub returns-clause-reply : goal.returns-clause-reply
returns-clause-reply c = λ k s u d h there. ap (λ x. reply x.answer) (repeats k s u d h there) ∙ (accepts k s d h).reply
