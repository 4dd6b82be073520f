use Rattle.std.proofs.Common.{refl, subst, sym}
use Rattle.crush_cache.specs.Caches.{IsNumberOf}
use Rattle.crush_pool.specs.Contents.{content_of}
use Rattle.crush_cache.proofs.cache.PlacementCache.place_numbered.Goals as goal

pub returns-in-Some-clause-placed : goal.returns-in-Some-clause-placed
returns-in-Some-clause-placed c =
    let number = subst (λ k. IsNumberOf k c.args.number (content_of c.args.placer.now)) (sym c.is_kept.ensures) c.requires in
    c.in-Some.ensures.placed (content_of c.args.placer.now) number c.args.placer.now.map c.pool_parts.ensures.map refl
