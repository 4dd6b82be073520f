use Rattle.std.proofs.Common.{rules, ◌≡◌, ◌<◌, length, sym, subst}
use Rattle.crush_cache.specs.Caches.{WasNumberOf}
use Rattle.crush_cache.specs.Private.Entries.{long_in}
use Rattle.crush_cache.proofs.Numbers.{are_numbered-more, number_of-last, placement_in-more, was_number-more}
use Rattle.crush_cache.proofs.cache.PlacementCache.add.Goals as goal

pub invariant_of-self : goal.invariant_of-self
invariant_of-self c = rw c.in-Err.ensures.items c.self.invariant

pub invariant_of-self-2 : goal.invariant_of-self-2
invariant_of-self-2 c =
    let few = subst (λ k. length k.contents < 256) (sym c.self.view_is) c.requires.room in
    let long = subst (λ k. long_in k.contents < 64) (sym c.self.view_is) c.requires.long in
    let len : c.len.result ≡ length c.self.inside.contents.items = search rules in
    rw c.in-Ok.ensures.items (
      are_numbered-more c.self.inside.first c.self.inside.contents.items c.args.content c.len.result len c.self.invariant.0 few long c.if-number.false,
      λ e there. placement_in-more c.self.inside.first c.self.inside.contents.items c.args.content e.0.number e.0.group e.1.value (c.self.invariant.1 e there),
    )

pub returns-clause-number : goal.returns-clause-number
returns-clause-number c =
    let len : c.len.result ≡ length c.self.inside.contents.items = search rules in
    rw c.in-Ok.ensures.items (number_of-last c.self.inside.first c.self.inside.contents.items c.args.content c.len.result len)

pub returns-clause-kept : goal.returns-clause-kept
returns-clause-kept c = λ n p h.
    rw c.in-Ok.ensures.items (was_number-more c.self.inside.first c.self.inside.contents.items c.args.content n p (subst (λ k. WasNumberOf k n p) (sym c.self.view_is) h))
