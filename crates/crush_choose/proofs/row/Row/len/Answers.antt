use Rattle.std.proofs.Common.{List, length, sym, ap, ◌∙◌, arith, length-take-le}
use Rattle.std.specs.Prelude.{Option}
use Rattle.crush_map.specs.crush_types.specs.declared.ItemId.{ItemId}
use Rattle.crush_choose.proofs.row.Row.len.Goals as goal

pub returns-clause-value : goal.returns-clause-value
returns-clause-value c =
    let slots = c.self.inside.slots in
    sym (length-take-le c.self.inside.len slots (omega (arith, c.self.invariant.few, c.self.invariant.whole))) ∙ ap (λ (l : List (Option ItemId)). length l) c.self.view_is
