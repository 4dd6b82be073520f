use Rattle.std.proofs.Common.{ℕ, ◌-◌, ◌^◌, ap, arith, ◌∙◌}
use Rattle.crush_pool.proofs.Masks.{height_is}
use Rattle.crush_pool.proofs.group.mask_of.Goals as goal

pub returns : goal.returns
returns c =
    let is = c.loop-width.invariant in
    let k = height_is c.args.b c.loop-width.height (omega (arith, is.width)) is.below (c.height_is_least.ensures.enough c.args.b) (c.height_is_least.ensures.least c.args.b) in
    ap (λ (w : ℕ). w - 1) is.width ∙ ap (λ (h : ℕ). 2 ^ h - 1) k
