use Rattle.std.proofs.Common.{◌≡◌, ◌∙◌, ◌==◌, Some, ap, refl}
use Rattle.std.specs.Prelude.{find}
use Rattle.std.proofs.lemmas.Result.{err_from_is_err_and}
use Rattle.tenant_messages.specs.Reply.{reply}
use Rattle.tenant_resources.proofs.GroupAnswers.{pool_there, group_refused, group_placed}
use Rattle.tenant_state.specs.State.{pool}
use Rattle.tenant_resources.proofs.groups.group_answer.Goals as goal

pub returns-in_err-placement : goal.returns-in_err-placement
returns-in_err-placement c =
    let found : Some c.in_ok-pool.pool.now ≡ find (λ p. p.parts.id == c.args.id) c.pools.result.now = rw c.in_ok-pool.ensures.ok_part at c.get.ensures in
    let there : pool c.args.id c.args.inventory.now ≡ Some c.in_ok-pool.pool.now = pool_there c.args.id c.args.inventory.now c.pools.result.now c.in_ok-pool.pool.now c.pools.ensures found in
    let p = err_from_is_err_and c.from_residual-in_err-placement.result c.from_residual-in_err-placement.ensures.1 in
    rw (p.1, p.2) (group_refused c.args.id c.args.group c.args.inventory.now c.in_ok-pool.pool.now _ there c.in_err-placement.ensures)

pub returns : goal.returns
returns c =
    let found : Some c.in_ok-pool.pool.now ≡ find (λ p. p.parts.id == c.args.id) c.pools.result.now = rw c.in_ok-pool.ensures.ok_part at c.get.ensures in
    let there : pool c.args.id c.args.inventory.now ≡ Some c.in_ok-pool.pool.now = pool_there c.args.id c.args.inventory.now c.pools.result.now c.in_ok-pool.pool.now c.pools.ensures found in
    c.in_ok-placed_group.ensures
    ∙ ap reply (group_placed c.args.id c.args.group c.args.inventory.now c.in_ok-pool.pool.now c.in_ok-placement.placement _ there c.in_ok-placement.ensures refl)
