use Rattle.std.proofs.Common.{is_some, ap, sym, ◌∙◌}
use Rattle.tenant_cache.specs.Kept.{kept_at}
use Rattle.tenant_cache.proofs.NameFacts.{some_of_value, some_shown}
use Rattle.tenant_cache.proofs.kept.KeptTenants.has.Goals as goal

pub returns : goal.returns
returns g c = c.is_some.ensures ∙ sym (some_of_value (λ x. x.now) c.peek.result) ∙ ap is_some c.peek.ensures ∙ sym (some_shown (λ r. r.value) c.self.inside.by_name.entries c.args.name.now) ∙ ap (λ k. is_some (kept_at k c.args.name.now)) c.self.view_is
