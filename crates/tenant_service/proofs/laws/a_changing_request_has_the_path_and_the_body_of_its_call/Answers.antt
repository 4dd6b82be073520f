use Rattle.tenant_service.proofs.Reading.{call_from}
use Rattle.tenant_service.proofs.laws.a_changing_request_has_the_path_and_the_body_of_its_call.Goals as goal

pub returns-clause-path : goal.returns-clause-path
returns-clause-path c = λ call command is. (call_from call command is).0

pub returns-clause-body : goal.returns-clause-body
returns-clause-body c = λ call command is. (call_from call command is).1
