use Rattle.std.proofs.Common.{Contains, inl, inr, ap, subst}
use Rattle.crush_cache.proofs.Found.{kept_at}
use Rattle.crush_cache.proofs.entries.keep.Goals as goal

pub returns-in-Ok : goal.returns-in-Ok
returns-in-Ok c = λ e there.
    elim (kept_at c.args.entries.now c.args.key c.args.placement e (subst (λ k. Contains k.entries e) c.in-Ok.ensures.entries there)) [
      | inl was ↦ inl was
      | inr put ↦ inr (put.0, ap (λ v. v.value) put.1)
    ]
