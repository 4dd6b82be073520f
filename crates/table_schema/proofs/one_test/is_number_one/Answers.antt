use Rattle.std.proofs.Common.{◌≡◌, None, slice_get, option_copied, true≢false, sym, ap, ◌∙◌}
use Rattle.table_schema.proofs.Tested.{past}
use Rattle.table_schema.proofs.one_test.is_number_one.Goals as goal

pub returns-in-None : goal.returns-in-None
returns-in-None c = (
  λ no. absurd (true≢false (sym no)),
  λ is.
      let none : slice_get c.args.nodes.now c.args.at ≡ None = sym c.get.ensures.value ∙ ap option_copied c.in-None.is in
      absurd (let e = sym (past c.args.nodes.now c.args.at none) ∙ is in cc),
)
