use Rattle.std.proofs.Common.{◌≡◌, ◌∙◌, ap, sym}
use Rattle.crush_pool.specs.Laws.{content_decides}
use Rattle.tenant_cache.specs.Last.{OfContent}
use Rattle.tenant_cache.proofs.last.Last.is_of.Goals as goal

-- contents that compare equal are one content
pub returns : goal.returns
returns g c = λ is. sym (ap (λ (k : OfContent _). k.content) c.self.view_is) ∙ (content_decides c.self.inside.content c.args.content.now).0 (sym c.eq.ensures ∙ is)
