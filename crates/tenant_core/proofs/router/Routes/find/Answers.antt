use Rattle.std.proofs.Common.{◌≡◌, Some}
use Rattle.std.specs.Result.{result_ok}
use Rattle.tenant_core.proofs.Targets.{from_ok, text_ascii}
use Rattle.tenant_core.proofs.router.Routes.find.Goals as goal

-- a row of the table was found for this path
pub invariant_of-result : goal.invariant_of-result
invariant_of-result c =
    let found = c.in_ok-found.found in
    let given : result_ok c.at.result ≡ Some found =
    let a = c.ok.ensures.value in let b = c.in_ok-found.ensures.value in let d = c.in_ok-found.is in let e = c.in_ok-found.found-is in cc in
    record {
      path = from_ok c.at.result _ found c.at.ensures.path given;
      ascii = c.is_ascii_text.ensures;
      text = text_ascii c.args.self.now.router c.args.path.now _ c.args.self.now.whole (from_ok c.at.result _ found c.at.ensures.found given);
    }
