use Rattle.tenant_cache.proofs.ContentFacts.{made}
use Rattle.tenant_cache.proofs.last.Last.build.Goals as goal

pub invariant_of-result : goal.invariant_of-result
invariant_of-result g c =
    let law = c.canonical_texts_are_read.ensures in
    made g.G.OfGroups.are_on c.args.content c.args.placer.now c.in_ok-found.found law.own law.alone c.requires.map c.requires.content c.in_ok-found.ensures
