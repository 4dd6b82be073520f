use Rattle.std.proofs.Common.{ℕ, ap, ◌∙◌}
use Rattle.crush_hash.specs.Hash.{hash3}
use Rattle.crush_bucket.proofs.straw2.offer_eight.Goals as goal

pub offer_lanes-requires-clause-hashes : goal.offer_lanes-requires-clause-hashes
offer_lanes-requires-clause-hashes c n low = c.hash3_items-hashes.ensures n low ∙ ap (λ (w : ℕ). hash3 c.args.x w c.args.r) (c.words.ensures n low)
