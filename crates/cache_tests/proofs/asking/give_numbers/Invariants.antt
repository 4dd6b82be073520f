use Rattle.crush_cache.specs.Caches.{KeepsNumbers}
use Rattle.cache_tests.proofs.asking.give_numbers.Given as goal

-- the numbers that were given before stay given
abbrev pub invariant-loop-pool : goal.invariant-loop-pool
invariant-loop-pool g l = KeepsNumbers l.initial.cache l.cache
