use Rattle.std.proofs.Common.{◌∙◌, ap, map, string_bytes}
use Rattle.tenant_state.proofs.Keeping.{placed_in}
use Rattle.tenant_state.specs.Receipts.{with_receipt}
use Rattle.tenant_state.proofs.receipts.Receipts.insert.Goals as goal

pub returns-clause-ok : goal.returns-clause-ok
returns-clause-ok c =
    ap (map (λ e. (string_bytes e.0, e.1.value))) c.in_ok-insert.ensures.entries
    ∙ (placed_in c.args.number c.args.receipt c.self.inside.by_number.entries
    ∙ ap (with_receipt (string_bytes c.args.number) c.args.receipt.value) c.self.view_is)
