use Rattle.std.proofs.Common.{rules, arith, ◌≡◌, ◌≤◌, sym, ◌∙◌, true, false}
use Rattle.crush_bucket.specs.Tables.{tables_of}
use Rattle.crush_choose.specs.Weights.{weights_of}
use Rattle.crush_pool.specs.Placers.{steps_of}
use Rattle.crush_pool.specs.States.{reweights}
use Rattle.crush_report.proofs.Groups.{touched_more}
use Rattle.crush_report.proofs.OnMaps.{impact_on}
use Rattle.crush_report.specs.OnMaps.{touches_on}
use Rattle.crush_report.proofs.touched_groups.impact_with.Goals as goal
use Rattle.crush_report.proofs.touched_groups.impact_with.Goals.{then-is_touched+in_ok-push, else-is_touched}

pub loop-group-preserved : goal.loop-group-preserved
loop-group-preserved c =
    let p = c.args.placer.now in
    let n = c.loop-group.group in
    let test = touches_on p c.args.device n in
    let more = touched_more (tables_of p.map) (weights_of (reweights p.states)) (steps_of p) p.pool p.pairs c.args.device n in
    elim c.if-is_touched.branch [
      | then-is_touched+in_ok-push w ↦
          (let hit : test ≡ true = sym c.is_touched.ensures.touched ∙ w.if-is_touched.true in
          let one = rw hit at more in
          search (rules, one))
      | else-is_touched w ↦
          (let miss : test ≡ false = sym c.is_touched.ensures.touched ∙ w.if-is_touched.false in
          let none = rw miss at more in
          search (rules, none))
    ]

pub returns : goal.returns
returns c =
    let p = c.args.placer.now in
    let n = c.loop-group.group in
    let end : n ≤ p.pool.pg_num = rw c.pool_parts.ensures.same at c.loop-group.auto.group-end in
    let above : p.pool.pg_num ≤ n = rw c.pool_parts.ensures.same at c.loop-group-test.false in
    let all : n ≡ p.pool.pg_num = omega (arith, end, above) in
    let found = rw all at (c.new.ensures ∙ c.loop-group.invariant.found) in
    rw found (impact_on p c.args.device c.tables.ensures.rule)
