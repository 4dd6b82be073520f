use Rattle.std.proofs.Common.{◌≡◌, None, refl}
use Rattle.std.specs.BTreeMap.{get_by_text}
use Rattle.session_tests.proofs.Stopped.{left_by}
use Rattle.session_tests.proofs.stopping.StoppingTenantStore.remove.Goals as goal

pub returns-then-not-stops-clause-others : goal.returns-then-not-stops-clause-others
returns-then-not-stops-clause-others c = λ honest works t s apart. (rw c.stops.ensures.disk at c.remove.ensures.others) tt refl t s apart

pub returns-then-self-clause-crash : goal.returns-then-self-clause-crash
returns-then-self-clause-crash c = λ honest latched.
    left_by c.remove-written.result (λ t. get_by_text c.args.self.now.disk.states t) (λ t. get_by_text c.remove-written.new.self.states t) c.args.name.now (None)
    (c.remove-written.ensures.made tt) ((rw c.stops.ensures.disk at c.remove-written.ensures.others) tt refl) ((rw c.stops.ensures.disk at c.remove-written.ensures.err) tt refl)
