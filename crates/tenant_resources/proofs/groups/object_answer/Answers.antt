use Rattle.std.proofs.Common.{◌≡◌, ◌∙◌, ◌==◌, Some, ap, refl}
use Rattle.std.specs.Prelude.{find}
use Rattle.std.proofs.lemmas.Result.{err_from_is_err_and}
use Rattle.crush_pool.specs.Pools.{group_of}
use Rattle.tenant_messages.specs.Reply.{reply}
use Rattle.tenant_resources.proofs.GroupAnswers.{pool_there, group_of-hash, object_refused, object_placed}
use Rattle.tenant_state.specs.State.{pool}
use Rattle.tenant_resources.proofs.groups.object_answer.Goals as goal

pub returns-in_err-placement : goal.returns-in_err-placement
returns-in_err-placement c =
    let found : Some c.in_ok-pool.pool.now ≡ find (λ p. p.parts.id == c.args.id) c.pools.result.now = rw c.in_ok-pool.ensures.ok_part at c.get.ensures in
    let there : pool c.args.id c.args.inventory.now ≡ Some c.in_ok-pool.pool.now = pool_there c.args.id c.args.inventory.now c.pools.result.now c.in_ok-pool.pool.now c.pools.ensures found in
    let own : c.group_of_hash-group.result ≡ group_of c.in_ok-pool.pool.now.parts c.args.name.now =
    group_of-hash c.pool.result.now c.in_ok-pool.pool.now.parts c.args.name.now c.hash.result c.group_of_hash-group.result c.group_of_hash-group.ensures.value c.pool.ensures c.hash.ensures in
    let p = err_from_is_err_and c.from_residual-in_err-placement.result c.from_residual-in_err-placement.ensures.1 in
    rw (p.1, p.2)
    (object_refused c.args.id c.args.name.now c.args.inventory.now c.in_ok-pool.pool.now c.group_of_hash-group.result _ there own c.in_err-placement.ensures)

pub returns : goal.returns
returns c =
    let found : Some c.in_ok-pool.pool.now ≡ find (λ p. p.parts.id == c.args.id) c.pools.result.now = rw c.in_ok-pool.ensures.ok_part at c.get.ensures in
    let there : pool c.args.id c.args.inventory.now ≡ Some c.in_ok-pool.pool.now = pool_there c.args.id c.args.inventory.now c.pools.result.now c.in_ok-pool.pool.now c.pools.ensures found in
    let own : c.group_of_hash-group.result ≡ group_of c.in_ok-pool.pool.now.parts c.args.name.now =
    group_of-hash c.pool.result.now c.in_ok-pool.pool.now.parts c.args.name.now c.hash.result c.group_of_hash-group.result c.group_of_hash-group.ensures.value c.pool.ensures c.hash.ensures in
    c.in_ok-placed_object.ensures
    ∙ ap reply (object_placed c.args.id c.args.name.now c.args.inventory.now c.in_ok-pool.pool.now c.args.name.now c.group_of_hash-group.result c.in_ok-placement.placement _ there
    refl own c.in_ok-placement.ensures refl)
