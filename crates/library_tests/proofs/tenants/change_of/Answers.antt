-- The change is that of the decision, which fits its state.
use Rattle.std.proofs.Common.{◌∙◌, [], Some, ap, subst, sym}
use Rattle.tenant_core.specs.Effects.{Fits, effect_of}
use Rattle.tenant_core.specs.declared.request.Action.TheVariants.{Command}
use Rattle.library_tests.proofs.tenants.change_of.Goals as goal

pub returns-in-Some : goal.returns-in-Some
returns-in-Some c =
    let state = Some c.args.state.now in
    subst (λ e. Fits e state) (sym (ap effect_of (sym c.in-Some.is) ∙ c.in_ok-change.ensures.effect)) (c.each_decision_fits_its_state.ensures [] (Command c.args.command.now) state)
