use Rattle.std.proofs.Common.{◌≡◌, rules, ap, sym, ◌∙◌}
use Rattle.crush_pool.specs.Placers.{PoolOnMap}
use Rattle.crush_report.specs.Moves.{move_between}
use Rattle.crush_report.specs.OnMaps.{up_on}
use Rattle.crush_report.proofs.Groups.{moves_more}
use Rattle.crush_report.specs.Private.Parts.{list_at}
use Rattle.crush_report.proofs.moved_from.moved_rows.Goals as goal
use Rattle.crush_report.proofs.moved_from.moved_rows.Goals.{in-Some+in_ok-push, in_default}

pub loop-group-preserved : goal.loop-group-preserved
loop-group-preserved c =
    let n = c.loop-group.group in
    let more = moves_more (list_at c.args.old.now) (up_on c.args.run.now) n in
    let new : c.as_slice.result.now ≡ up_on c.args.run.now n = c.as_slice.ensures.value ∙ (c.in_ok-set_up.ensures.up ∙ ap (λ (p : PoolOnMap). up_on p n) c.loop-group.invariant.on) in
    let row : c.in_ok-moved.moved ≡ move_between n (list_at c.args.old.now n) (up_on c.args.run.now n) = rw (c.list.ensures, new) at c.in_ok-moved.ensures in
    elim c.match-moved.branch [
      | in-Some+in_ok-push w ↦
          (let one = rw (sym row ∙ w.in-Some.is) at more in
          search (rules, one))
      | in_default w ↦
          (let none = rw (sym row ∙ w.in_default.is) at more in
          search (rules, none))
    ]
