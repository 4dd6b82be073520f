use Rattle.std.proofs.Common.{◌≡◌, ◌+◌, Some, position, ap, refl, sym, ◌∙◌}
use Rattle.crush_pool.specs.Contents.{content_eq}
use Rattle.crush_cache.proofs.Found.{some_weaker}
use Rattle.crush_cache.proofs.Numbers.{never, number_of-found, some_one, was_number}
use Rattle.crush_cache.proofs.cache.PlacementCache.number_of.Goals as goal

pub returns-in-Some-clause-number : goal.returns-in-Some-clause-number
returns-in-Some-clause-number c =
    let contents : c.as_slice.result.now ≡ c.args.self.now.contents = c.as_slice.ensures.value ∙ ap (λ k. k.contents) c.self.view_is in
    number_of-found c.args.self.now c.self.inside.first c.in-Some.place c.args.content (ap (λ k. k.first) c.self.view_is)
    (sym (ap (position (λ d. content_eq d c.args.content)) contents) ∙ (sym c.place_of.ensures ∙ c.in-Some.is))

pub returns-in-Some-clause-given : goal.returns-in-Some-clause-given
returns-in-Some-clause-given c = was_number c.args.self.now (c.self.inside.first + c.in-Some.place) c.args.content (returns-in-Some-clause-number c)

pub returns-in-Some-clause-found : goal.returns-in-Some-clause-found
returns-in-Some-clause-found c = λ i h.
    let contents : c.as_slice.result.now ≡ c.args.self.now.contents = c.as_slice.ensures.value ∙ ap (λ k. k.contents) c.self.view_is in
    let place : c.in-Some.place ≡ i = some_one _ _ (sym c.in-Some.is ∙ (c.place_of.ensures ∙ (ap (position (λ d. content_eq d c.args.content)) contents ∙ h))) in
    (ap (λ p. Some (c.self.inside.first + p)) place ∙ ap (λ k. Some (k.first + i)) c.self.view_is, refl)

pub returns-in-None-clause-given : goal.returns-in-None-clause-given
returns-in-None-clause-given c = some_weaker _ _ (λ n h. was_number c.add.new.self n c.args.content h) c.add.result c.add.ensures.number

pub returns-in-None-clause-kept : goal.returns-in-None-clause-kept
returns-in-None-clause-kept c = λ n p h. c.add.ensures.kept n p (c.make_room.ensures.kept n p h)

pub returns-in-None-clause-found : goal.returns-in-None-clause-found
returns-in-None-clause-found c = λ i h.
    let contents : c.as_slice.result.now ≡ c.args.self.now.contents = c.as_slice.ensures.value ∙ ap (λ k. k.contents) c.self.view_is in
    never i (sym c.in-None.is ∙ (c.place_of.ensures ∙ (ap (position (λ d. content_eq d c.args.content)) contents ∙ h)))
