use Rattle.std.proofs.Common.{◌∙◌, Some, ap, sym, refl}
use Rattle.tenant_messages.proofs.Bodies.{text_of-utf8, text_of-other}
use Rattle.tenant_messages.proofs.json.text_of.Goals as goal

pub returns-in-Ok : goal.returns-in-Ok
returns-in-Ok c = text_of-utf8 c.args.body.now c.in-Ok.ensures.cases.1 ∙ ap Some (sym c.in-Ok.ensures.cases.0)

pub returns-in-Err : goal.returns-in-Err
returns-in-Err c = (text_of-other c.args.body.now c.in-Err.ensures.cases.0, refl)
