use Rattle.std.proofs.Common.{ℕ, refl, ap, arith, ◌∙◌}
use Rattle.crush_bucket.proofs.Nodes.{quarters, eighths}
use Rattle.crush_bucket.proofs.Lanes.{AreHashes, two_down, three_down}
use Rattle.crush_bucket.proofs.descent.down.Goals as goal

pub labels-requires-clause-above : goal.labels-requires-clause-above
labels-requires-clause-above c = let q = quarters c.args.level (omega (arith, c.requires.some)) in omega arith

pub step-second-requires-clause-left : goal.step-second-requires-clause-left
step-second-requires-clause-left c = let q = quarters c.args.level (omega (arith, c.requires.some)) in omega arith

pub step-third-requires-clause-left : goal.step-third-requires-clause-left
step-third-requires-clause-left c = let q = quarters c.args.level (omega (arith, c.requires.some)) in omega arith

pub step-third-requires-clause-inside : goal.step-third-requires-clause-inside
step-third-requires-clause-inside c = let q = quarters c.args.level (omega (arith, c.requires.some)) in omega arith

pub step-requires-clause-left : goal.step-requires-clause-left
step-requires-clause-left c =
    let q = quarters c.args.level (omega (arith, c.requires.some)) in
    let e = eighths c.args.level c.requires.some in
    omega arith

pub step-requires-clause-inside : goal.step-requires-clause-inside
step-requires-clause-inside c = let q = quarters c.args.level (omega (arith, c.requires.some)) in omega arith

pub returns : goal.returns
returns c =
    let are : AreHashes c.args.id c.args.x c.args.r c.args.node c.places-quarter.result c.hash4_lanes-hashes.result = λ n h. c.hash4_lanes-hashes.ensures n h ∙ rw (c.labels.ensures, c.word.ensures) refl in
    let is = two_down c.args.id c.args.nodes.now c.args.x c.args.r c.args.node c.args.level c.places-quarter.result c.hash4_lanes-hashes.result c.step-second.result c.step-third.result (omega (arith, c.requires.some)) c.places-quarter.ensures are c.step-second.ensures.value c.step-third.ensures.value in
    let end = ap (λ (p : ℕ × ℕ). p.0) c.step.ensures.value in
    three_down c.args.id c.args.nodes.now c.args.x c.args.r c.args.node c.args.level c.hash4_lanes-hashes.result c.step-third.result c.step.result.0 (omega (arith, c.requires.some)) is (rw (← c.places.ensures) end)
