use Rattle.std.proofs.Common.{◌≡◌, eqb, sym, subst}
use Rattle.std.specs.List.{dedup}
use Rattle.std.specs.List.Sorted.{IsStrictlyIncreasing}
use Rattle.std.proofs.lemmas.List.Filters.{dedup_is}
use Rattle.std.proofs.lemmas.Map.Keys.{IsStrictlyIncreasing-dedup}
use Rattle.crush_choose.proofs.Tracing.{has_sorted}
use Rattle.crush_choose.proofs.rule.finish.Goals as goal

pub returns-clause-rising : goal.returns-clause-rising
returns-clause-rising c =
    let e : c.dedup.new.self.items ≡ dedup eqb c.sort_unstable.new.self.items = dedup_is eqb _ _ c.dedup.ensures.filtered in
    subst IsStrictlyIncreasing (sym e) (IsStrictlyIncreasing-dedup c.sort_unstable.new.self.items c.sort_unstable.ensures.sorted)

pub returns-clause-same : goal.returns-clause-same
returns-clause-same c =
    has_sorted c.args.made.now.items c.sort_unstable.new.self.items c.dedup.new.self.items c.sort_unstable.ensures.permutation (dedup_is eqb _ _ c.dedup.ensures.filtered)
