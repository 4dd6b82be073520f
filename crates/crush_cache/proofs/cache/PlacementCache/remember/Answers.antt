use Rattle.std.proofs.Common.{sym, subst, inl, inr}
use Rattle.crush_cache.specs.Private.Entries.{IsPlacementIn}
use Rattle.crush_cache.specs.declared.entries.Key.{Key}
use Rattle.crush_cache.proofs.Numbers.{right_new}
use Rattle.crush_cache.proofs.cache.PlacementCache.remember.Goals as goal

pub invariant_of-self : goal.invariant_of-self
invariant_of-self c =
    let key : Key = record { number = c.args.number; group = c.args.group } in
    let placed = subst (λ k. IsPlacementIn k c.args.number c.args.group c.args.placement.value) (sym c.self.view_is) c.requires in (
      c.self.invariant.0,
      λ e there. elim (c.keep.ensures e there) [
        | inl was ↦ c.self.invariant.1 e was
        | inr new ↦ right_new _ key e.0 c.args.placement.value e.1.value new.0 new.1 placed
      ],
    )
