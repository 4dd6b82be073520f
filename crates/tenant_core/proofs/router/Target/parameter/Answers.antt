use Rattle.std.proofs.Common.{◌≡◌, true, sym, ◌∙◌}
use Rattle.std.specs.Char.{is_ascii}
use Rattle.std.specs.List.{list_all}
use Rattle.tenant_core.specs.Target.{Target}
use Rattle.tenant_core.proofs.Targets.{parameter-given}
use Rattle.tenant_core.proofs.router.Target.parameter.Goals as goal

-- the path is ASCII, and so are the routes
pub returns-then-self : goal.returns-then-self
returns-then-self c =
    let target : Target =
    record {
      row = record { pattern = c.self.inside.params.pattern.now; text = c.self.inside.params.text.now; names = c.self.inside.params.names.now; value = c.self.inside.methods };
      path = c.self.inside.path.now;
    } in
    let ascii : list_all is_ascii c.self.inside.path.now ≡ true = sym c.self.invariant.ascii ∙ c.if-self.true in
    rw (← c.self.view_is) (parameter-given (λ text. text.now) c.args.key.now target c.get.result c.self.invariant.text ascii (rw c.self.invariant.path at c.get.ensures))
