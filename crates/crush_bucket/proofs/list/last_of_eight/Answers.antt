use Rattle.std.proofs.Common.{◌≡◌, ◌<◌, ◌+◌, true, false, arith}
use Rattle.crush_bucket.specs.Kinds.{takes}
use Rattle.crush_bucket.proofs.Greatest.{last_passes, last_fails}
use Rattle.crush_bucket.proofs.list.last_of_eight.Goals as goal
use Rattle.crush_bucket.proofs.list.last_of_eight.Goals.{then-is_below, else-is_below}

pub loop-lane-preserved : goal.loop-lane-preserved
loop-lane-preserved c =
    let lane = c.loop-lane.lane in
    let p = takes c.args.id c.args.items.now c.args.x c.args.r in
    let low : lane < 8 = omega arith in
    let hash = c.hash4_lanes-hashes.ensures lane low in
    let item = c.words.ensures lane low in
    let sum = c.requires.sums.each (c.args.from + lane) (omega arith) in
    let is : c.is_below.result ≡ p (c.args.from + lane) = cc (c.is_below.ensures, hash, item, sum, c.word.ensures) in
    elim c.if-is_below.branch [
      | then-is_below w ↦ let passes : p (c.args.from + lane) ≡ true = cc in rw w.last-is (last_passes p c.args.from lane passes)
      | else-is_below w ↦ let fails : p (c.args.from + lane) ≡ false = cc in rw w.last-is (last_fails p c.args.from lane c.loop-lane.last fails c.loop-lane.invariant)
    ]
