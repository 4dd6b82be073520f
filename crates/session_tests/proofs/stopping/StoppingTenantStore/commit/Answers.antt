use Rattle.std.proofs.Common.{◌≡◌, Some, refl}
use Rattle.std.specs.BTreeMap.{get_by_text}
use Rattle.session_tests.proofs.Stopped.{left_by}
use Rattle.tenant_core.specs.tenant_state.specs.State.{after}
use Rattle.session_tests.proofs.stopping.StoppingTenantStore.commit.Goals as goal

pub returns-then-not-stops-clause-others : goal.returns-then-not-stops-clause-others
returns-then-not-stops-clause-others c = λ honest works t s apart. (rw c.stops.ensures.disk at c.commit.ensures.others) tt refl t s apart

pub returns-then-self-clause-crash : goal.returns-then-self-clause-crash
returns-then-self-clause-crash c = λ honest latched s has.
    left_by c.commit-written.result (λ t. get_by_text c.args.self.now.disk.states t) (λ t. get_by_text c.commit-written.new.self.states t) c.args.name.now (Some (after c.args.change.now s))
    ((rw c.stops.ensures.disk at c.commit-written.ensures.made) tt s has) ((rw c.stops.ensures.disk at c.commit-written.ensures.others) tt refl) ((rw c.stops.ensures.disk at c.commit-written.ensures.err) tt refl)
