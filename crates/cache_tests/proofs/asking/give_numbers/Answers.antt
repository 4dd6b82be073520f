use Rattle.cache_tests.proofs.asking.give_numbers.Goals as goal

pub loop-pool-preserved : goal.loop-pool-preserved
loop-pool-preserved g c = λ n d h. c.number_of.ensures.kept n d (c.loop-pool.invariant n d h)
