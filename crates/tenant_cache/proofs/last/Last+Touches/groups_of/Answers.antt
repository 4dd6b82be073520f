use Rattle.std.proofs.Common.{◌≡◌, ◌∙◌, Some, IfSome, refl, ap, subst}
use Rattle.crush_pool.specs.Contents.{Content, content_of}
use Rattle.crush_report.specs.Touches.{AreTouchesOn}
use Rattle.tenant_cache.specs.Last.{IsOf, OfContent}
use Rattle.tenant_cache.proofs.last.Last+Touches.groups_of.Goals as goal

-- the touches belong to the content, which is that of the pool
pub returns-in-Ok : goal.returns-in-Ok
returns-in-Ok c p is same =
    let content : c.self.inside.content ≡ content_of p = ap (λ (k : OfContent _). k.content) c.self.view_is ∙ same in
    let kept = subst (λ o. IfSome o (IsOf AreTouchesOn c.self.inside.content)) c.in-Some.is c.self.invariant in
    let of = subst (λ (k : Content). IsOf AreTouchesOn k c.in-Some.touches) content kept in
    ap Some c.in-Ok.ensures ∙ of p.map is refl c.args.device
