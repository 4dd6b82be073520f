use Rattle.std.proofs.Common.{◌∙◌, ap, sym, ne_eqb}
use Rattle.crush_pool.specs.Contents.{content_hash}
use Rattle.crush_pool.specs.Laws.{hashes_differ}
use Rattle.crush_pool.proofs.content.ContentPartialEq.eq.Goals as goal

pub returns-else-self-other : goal.returns-else-self-other
returns-else-self-other c =
    let hash = c.self.invariant ∙ ap content_hash c.self.view_is in
    let others = c.other.invariant ∙ ap content_hash c.other.view_is in
    ne_eqb _ _ c.if-self-other.false ∙ sym (hashes_differ c.args.self.now c.args.other.now (λ e. c.if-self-other.false (hash ∙ (e ∙ sym others))))
