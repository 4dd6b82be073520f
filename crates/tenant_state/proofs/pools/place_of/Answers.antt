use Rattle.std.proofs.Common.{nat_le, sym, ◌∙◌}
use Rattle.tenant_state.proofs.Ordering.{place_is_end}
use Rattle.tenant_state.proofs.pools.place_of.Goals as goal

pub returns-in-None : goal.returns-in-None
returns-in-None c = place_is_end (λ p. nat_le c.args.id p.value.parts.id) c.args.pools.now (sym c.not_below.ensures ∙ c.in-None.is)
