use Rattle.std.proofs.Common.{◌∙◌, subst, sym}
use Rattle.crush_cache.specs.Caches.{KeepsNumbers}
use Rattle.tenant_cache.specs.Ready.{HasNumber, Renumbers}
use Rattle.tenant_cache.proofs.placing.placed.Goals as goal

-- the number is that of what the tenant has
pub place-requires-clause-number : goal.place-requires-clause-number
place-requires-clause-number g c =
    subst (λ i. HasNumber c.number_for.new.cache i c.args.pool.now c.in_ok-number.number) (sym (c.deref-inventory.ensures ∙ c.inventory.ensures)) c.in_ok-number.ensures.number

-- placing leaves the numbers as they are
pub returns-clause-keeps : goal.returns-clause-keeps
returns-clause-keeps g c = subst (KeepsNumbers c.args.cache.now) (sym c.place.ensures.same) c.in_ok-number.ensures.keeps

pub returns-clause-beside : goal.returns-clause-beside
returns-clause-beside g c =
    subst (λ cache. Renumbers c.args.name.now c.args.ready.now cache c.args.kept.now c.number_for.new.kept) (sym c.place.ensures.same) c.in_ok-number.ensures.beside
