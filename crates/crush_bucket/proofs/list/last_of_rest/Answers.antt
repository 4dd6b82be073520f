use Rattle.std.proofs.Common.{◌≡◌, ◌<◌, true, false, arith}
use Rattle.crush_bucket.specs.Kinds.{takes}
use Rattle.crush_bucket.proofs.Greatest.{or_first, or_passes, or_fails}
use Rattle.crush_bucket.proofs.list.last_of_rest.Goals as goal
use Rattle.crush_bucket.proofs.list.last_of_rest.Goals.{then-is_below, else-is_below}

pub loop-place-init : goal.loop-place-init
loop-place-init c = or_first (takes c.args.id c.args.items.now c.args.x c.args.r) 1 (omega arith)

pub loop-place-preserved : goal.loop-place-preserved
loop-place-preserved c =
    let place = c.loop-place.place in
    let p = takes c.args.id c.args.items.now c.args.x c.args.r in
    let low : place < 8 = omega arith in
    let hash = c.hash4_lanes-hashes.ensures place low in
    let item = c.first_words.ensures place low (omega arith) in
    let sum = c.requires.sums.each place (omega arith) in
    let is : c.is_below.result ≡ p place = cc (c.is_below.ensures, hash, item, sum, c.word.ensures) in
    elim c.if-is_below.branch [
      | then-is_below w ↦ let passes : p place ≡ true = cc in rw w.last-is (or_passes p place passes)
      | else-is_below w ↦ let fails : p place ≡ false = cc in rw w.last-is (or_fails p place c.loop-place.last fails c.loop-place.invariant)
    ]
