use Rattle.std.proofs.Common.{subst}
use Rattle.crush_cache.specs.Caches.{WasNumberOf}
use Rattle.cache_tests.proofs.asking.answer_of.Goals as goal

pub place_known-requires : goal.place_known-requires
place_known-requires g c =
    subst (λ d. WasNumberOf c.give_numbers.new.cache c.number_of-number.result d) c.requires
    (c.give_numbers.ensures c.number_of-number.result c.args.content.now c.number_of-number.ensures.number)
