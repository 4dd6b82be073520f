use Rattle.std.proofs.Common.{sym, subst}
use Rattle.crush_cache.specs.Caches.{IsNumberOf}
use Rattle.crush_cache.specs.Private.Entries.{IsPlacementOf}
use Rattle.crush_cache.specs.declared.entries.Key.{Key}
use Rattle.crush_cache.proofs.Found.{some_weaker}
use Rattle.crush_cache.proofs.Numbers.{placement_is}
use Rattle.crush_cache.proofs.cache.PlacementCache.kept.Goals as goal

pub invariant_of-self : goal.invariant_of-self
invariant_of-self c = (c.self.invariant.0, λ e there. c.self.invariant.1 e (c.recall.ensures.same e there))

pub returns-clause-placed : goal.returns-clause-placed
returns-clause-placed c =
    let key : Key = record { number = c.args.number; group = c.args.group } in
    some_weaker _ _ (λ p h d n.
    subst (λ q. IsPlacementOf d c.args.group q) (sym h.2)
    (placement_is (λ v. v.value) _ c.self.inside.entries.entries key h.0 d c.self.invariant.1 h.1 (subst (λ k. IsNumberOf k c.args.number d) (sym c.self.view_is) n))) c.recall.result c.recall.ensures.found
