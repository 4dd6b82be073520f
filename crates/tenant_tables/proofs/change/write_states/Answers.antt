use Rattle.std.proofs.Common.{OnOk, ap, subst, ◌∙◌}
use Rattle.sqlite.specs.Held.{state}
use Rattle.tenant_tables.specs.Change.{Accepts, with_states}
use Rattle.tenant_tables.proofs.change.write_states.Goals as goal

pub returns-clause-done : goal.returns-clause-done
returns-clause-done g c clean =
    subst (λ w. OnOk c.commit_states.result (Accepts c.args.accepted.now w (state g.S.Store c.args.tables.now.0).now.trees (state g.S.Store c.commit_states.new.self.0).now.trees)) (ap with_states (c.deref.ensures.value ∙ c.in_ok-values.ensures)) (c.commit_states.ensures.done clean)
