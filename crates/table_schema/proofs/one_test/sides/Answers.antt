use Rattle.std.proofs.Common.{◌≡◌, None, slice_get, option_copied, sym, ap, ◌∙◌}
use Rattle.table_schema.proofs.Tested.{past}
use Rattle.table_schema.proofs.one_test.sides.Goals as goal

pub returns-in_default-5-clause-other : goal.returns-in_default-5-clause-other
returns-in_default-5-clause-other c _ a b is =
    let none : slice_get c.args.nodes.now c.args.at ≡ None = sym c.get.ensures.value ∙ ap option_copied c.in_default.is in
    absurd (let e = sym (past c.args.nodes.now c.args.at none) ∙ is in cc)
