use Rattle.std.proofs.Common.{sym, ◌∙◌}
use Rattle.tenant_cache.proofs.placing.place.Goals as goal

-- the number is that of the placer, which is the pool on the newest version
pub place_known-requires : goal.place_known-requires
place_known-requires c = c.requires.number c.in-Ok.placer (sym c.on_newest.ensures ∙ c.in-Ok.is)
