use Rattle.std.proofs.Common.{◌≡◌, Some, refl}
use Rattle.std.specs.BTreeMap.{get_by_text}
use Rattle.session_tests.proofs.Stopped.{left_by}
use Rattle.tenant_core.specs.tenant_state.specs.State.{fresh}
use Rattle.session_tests.proofs.stopping.StoppingTenantStore.create.Goals as goal

pub returns-then-not-stops-clause-others : goal.returns-then-not-stops-clause-others
returns-then-not-stops-clause-others c = λ honest works t s apart. (rw c.stops.ensures.disk at c.create.ensures.others) tt refl t s apart

pub returns-then-self-clause-crash : goal.returns-then-self-clause-crash
returns-then-self-clause-crash c = λ honest latched.
    left_by c.create-written.result (λ t. get_by_text c.args.self.now.disk.states t) (λ t. get_by_text c.create-written.new.self.states t) c.args.name.now (Some fresh)
    (c.create-written.ensures.made tt) ((rw c.stops.ensures.disk at c.create-written.ensures.others) tt refl) ((rw c.stops.ensures.disk at c.create-written.ensures.err) tt refl)
