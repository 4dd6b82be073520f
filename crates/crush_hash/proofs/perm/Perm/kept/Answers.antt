use Rattle.std.proofs.Common.{◌∙◌, ap}
use Rattle.crush_hash.specs.Permutation.{Remembered, kept}
use Rattle.crush_hash.proofs.Reaching.{counted_pairs}
use Rattle.crush_hash.proofs.perm.Perm.kept.Goals as goal

pub returns : goal.returns
returns c = c.len.ensures ∙ counted_pairs c.self.inside.reached c.self.inside.row.items c.self.invariant ∙ ap (λ (m : Remembered). kept m) c.self.view_is
