use Rattle.std.proofs.Common.{rules, ap, ap₂, ◌≡◌, ◌∙◌}
use Rattle.std.proofs.lemmas.Result.{IfOk-weaker}
use Rattle.clap.specs.Words.{App, Shape, app_of, with_subcommand}
use Rattle.crush_arguments.specs.Program as spec
use Rattle.crush_arguments.proofs.command.program.Goals as goal

abbrev top : App → Shape
top app = app.top

pub returns : goal.returns
returns c =
    let bare : app_of c.subcommand_required.result ≡ spec.alone = search rules in
    let with_script = c.in_ok-subcommand.ensures.shape c.in_ok-script_command.ensures.1 ∙ ap₂ with_subcommand bare (ap top c.in_ok-script_command.ensures.0) in
    let with_serve = c.in_ok-subcommand-2.ensures.shape c.in_ok-serve_command.ensures.1
    ∙ ap₂ with_subcommand with_script (ap top c.in_ok-serve_command.ensures.0) in
    IfOk-weaker c.subcommand-3.result _ _ (λ command added. added.shape c.in_ok-check_command.ensures.1
    ∙ ap₂ with_subcommand with_serve (ap top c.in_ok-check_command.ensures.0)) c.subcommand-3.ensures
