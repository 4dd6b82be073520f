use Rattle.crush_pool.proofs.Masks.{moves}
use Rattle.crush_pool.proofs.laws.numbers_move_to_new_groups.Goals as goal

pub returns : goal.returns
returns c = λ x fewer more some less. moves x fewer more some less (c.height_is_least.ensures.enough fewer) (c.height_is_least.ensures.enough more) (c.height_is_least.ensures.least fewer)
