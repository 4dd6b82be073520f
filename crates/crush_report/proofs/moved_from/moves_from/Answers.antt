use Rattle.std.proofs.Common.{◌*◌, arith, ◌≤◌}
use Rattle.std.specs.List.{range_with_len}
use Rattle.crush_choose.specs.declared.limits.TheConstants.{SIZE_LIMIT}
use Rattle.crush_pool.specs.declared.limits.TheConstants.{GROUP_LIMIT}
use Rattle.crush_report.specs.Moves.{gained_in, move_rows}
use Rattle.crush_report.specs.OnMaps.{up_on}
use Rattle.crush_report.proofs.Gains.{gains_few}
use Rattle.crush_report.proofs.OnMaps.{up_few}
use Rattle.crush_report.proofs.Short.{groups_few}
use Rattle.crush_report.specs.Private.Parts.{list_at}
use Rattle.crush_report.proofs.Lists.{moves_on_lists}
use Rattle.crush_report.proofs.moved_from.moves_from.Goals as goal

pub returns-clause-rows : goal.returns-clause-rows
returns-clause-rows c =
    let to = c.args.to.now in
    λ p are states pool pairs. rw (c.in_ok-rows.ensures, c.in_ok-run.ensures.same, c.pool_parts.ensures.same) (moves_on_lists p to c.args.old.now are states pool pairs c.build.ensures.rule)

pub returns-clause-gained : goal.returns-clause-gained
returns-clause-gained c =
    let old = list_at c.args.old.now in
    let new = up_on c.args.to.now in
    let n = c.args.to.now.pool.pg_num in
    let valid = c.pool_parts.ensures.valid in
    let few = gains_few old new 0 n (up_few c.args.to.now valid) in
    let all : gained_in (move_rows old new (range_with_len 0 n)) ≤ SIZE_LIMIT * GROUP_LIMIT = omega (arith, few, groups_few c.args.to.now.pool valid) in
    rw (c.in_ok-rows.ensures, c.in_ok-run.ensures.same, c.pool_parts.ensures.same) all
