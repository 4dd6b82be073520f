use Rattle.std.proofs.Common.{◌≡◌, List, length, ap, ◌∙◌}
use Rattle.crush_pool.specs.declared.exceptions.Pair.{Pair}
use Rattle.crush_pool.proofs.Pairs.{first_within}
use Rattle.crush_pool.proofs.exceptions.Exceptions.concern.Goals as goal

pub returns : goal.returns
returns c =
    let count : c.len.result ≡ length c.args.self.now = c.len.ensures ∙ (c.self.inside.pairs.ok.0 ∙ ap (λ (pairs : List Pair). length pairs) c.self.view_is) in
    rw (c.first_of.ensures, count) (first_within c.args.self.now c.args.group)
