use Rattle.std.proofs.Common.{◌≡◌, ◌<◌, ◌+◌, ◌++◌, ◌∷◌, [], ℕ, suc, List, length, take, set, sym, ap, ◌∙◌, arith, length-take-le, take-suc-set}
use Rattle.std.specs.Prelude.{Option}
use Rattle.crush_map.specs.crush_types.specs.declared.ItemId.{ItemId}
use Rattle.crush_choose.proofs.row.Row.push.Goals as goal

pub returns : goal.returns
returns c =
    let slots = c.self.inside.slots in
    let len = c.self.inside.len in
    let long = c.self.invariant.whole in
    let size : length c.args.self.now ≡ len = ap (λ (l : List (Option ItemId)). length l) (sym c.self.view_is) ∙ length-take-le len slots (omega (arith, c.self.invariant.few, long)) in
    let low : len < length slots = omega (arith, size, c.requires, long) in
    let next : len + 1 ≡ suc len = omega arith in
    ap (λ (n : ℕ). take n (set slots len c.args.slot)) next ∙ take-suc-set slots len c.args.slot low ∙ ap (λ (l : List (Option ItemId)). l ++ c.args.slot ∷ []) c.self.view_is
