use Rattle.std.proofs.Common.{Contains, sym, subst, ◌∙◌}
use Rattle.lru.proofs.CallerLemmas.{Contains-promoted}
use Rattle.crush_cache.proofs.Found.{found_at, key_eq, some_weaker}
use Rattle.crush_cache.proofs.entries.recall.Goals as goal

pub returns-clause-found : goal.returns-clause-found
returns-clause-found c =
    some_weaker _ _ (λ p h. (h.0, found_at c.args.entries.now.entries c.args.key h.0 (sym c.get.ensures.value ∙ h.1), h.2)) c.again.result c.again.ensures

pub returns-clause-same : goal.returns-clause-same
returns-clause-same c = λ e there.
    Contains-promoted (key_eq c.args.key) c.args.entries.now.entries e (subst (λ k. Contains k.entries e) c.get.follows.holds-at-none there)
