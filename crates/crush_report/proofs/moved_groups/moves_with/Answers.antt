use Rattle.std.proofs.Common.{◌*◌, arith, ◌≡◌, ◌≤◌, true}
use Rattle.std.specs.List.{range_with_len}
use Rattle.crush_pool.specs.Pools.{is_pool}
use Rattle.crush_report.specs.Moves.{gained_in, move_rows}
use Rattle.crush_report.specs.OnMaps.{up_on}
use Rattle.crush_report.proofs.Gains.{gains_few}
use Rattle.crush_report.proofs.OnMaps.{moves_on, up_few}
use Rattle.crush_report.proofs.Short.{groups_few}
use Rattle.crush_report.proofs.moved_groups.moves_with.Goals as goal
use Rattle.crush_choose.specs.declared.limits.TheConstants.{SIZE_LIMIT}
use Rattle.crush_pool.specs.declared.limits.TheConstants.{GROUP_LIMIT}

pub returns-clause-rows : goal.returns-clause-rows
returns-clause-rows c =
    rw (c.in_ok-rows.ensures, c.in_ok-old.ensures.same, c.in_ok-new.ensures.same, c.pool_parts.ensures.same)
    (moves_on c.args.from.now c.args.to.now c.requires.states c.requires.pool c.requires.exceptions c.build.ensures.rule c.build-2.ensures.rule)

pub returns-clause-gained : goal.returns-clause-gained
returns-clause-gained c =
    let old = up_on c.args.from.now in
    let new = up_on c.args.to.now in
    let n = c.args.from.now.pool.pg_num in
    let valid = c.pool_parts.ensures.valid in
    let also : is_pool c.args.to.now.pool ≡ true = rw c.requires.pool valid in
    let few = gains_few old new 0 n (up_few c.args.to.now also) in
    let all : gained_in (move_rows old new (range_with_len 0 n)) ≤ SIZE_LIMIT * GROUP_LIMIT = omega (arith, few, groups_few c.args.from.now.pool valid) in
    rw (c.in_ok-rows.ensures, c.in_ok-old.ensures.same, c.in_ok-new.ensures.same, c.pool_parts.ensures.same) all
