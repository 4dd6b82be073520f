use Rattle.std.proofs.Common.{◌∙◌, sym, ap, option_map}
use Rattle.std.specs.Option.{option_copied}
use Rattle.tenant_state.proofs.Keeping.{found_in}
use Rattle.tenant_state.specs.Receipts.{receipt_of}
use Rattle.tenant_state.proofs.receipts.Receipts.get.Goals as goal

pub returns-in-Some : goal.returns-in-Some
returns-in-Some c =
    ap (option_map (λ r. r.value)) (ap option_copied (sym c.in-Some.is) ∙ c.get.ensures.value)
    ∙ (found_in c.args.number.now c.self.inside.by_number.entries
    ∙ ap (receipt_of c.args.number.now) c.self.view_is)

pub returns-in-None : goal.returns-in-None
returns-in-None c =
    ap (option_map (λ r. r.value)) (ap option_copied (sym c.in-None.is) ∙ c.get.ensures.value)
    ∙ (found_in c.args.number.now c.self.inside.by_number.entries
    ∙ ap (receipt_of c.args.number.now) c.self.view_is)
