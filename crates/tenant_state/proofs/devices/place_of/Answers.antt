use Rattle.std.proofs.Common.{nat_le, sym, ◌∙◌}
use Rattle.tenant_state.proofs.Ordering.{place_is_end}
use Rattle.tenant_state.proofs.devices.place_of.Goals as goal

pub returns-in-None : goal.returns-in-None
returns-in-None c = place_is_end (λ s. nat_le c.args.device s.device) c.args.states.now (sym c.not_below.ensures ∙ c.in-None.is)
