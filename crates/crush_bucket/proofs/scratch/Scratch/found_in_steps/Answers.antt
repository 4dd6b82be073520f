use Rattle.std.proofs.Common.{◌≡◌, ◌<◌, [], slice_index, slice_index_or, arith}
use Rattle.std.specs.Prelude.{All}
use Rattle.crush_hash.specs.Permutation.{no_id}
use Rattle.crush_bucket.specs.Private.Ahead.{HasPick, IsStep}
use Rattle.crush_bucket.specs.Ahead.{IsPick}
use Rattle.crush_bucket.specs.declared.scratch.AheadPick.{AheadPick}
use Rattle.crush_bucket.proofs.scratch.Scratch.found_in_steps.Goals as goal
use Rattle.crush_bucket.proofs.scratch.Scratch.found_in_steps.Goals.{then-self-x+in_ok-self-inside, else-self-x}

pub invariant_of-self : goal.invariant_of-self
invariant_of-self c = elim c.if-self-x.branch [
  | then-self-x+in_ok-self-inside w ↦ rw w.self-inside-is (record { room = c.self.invariant.room; steps = c.self.invariant.steps; lane = omega (arith, w.in_ok-self-inside.ensures.within) })
  | else-self-x w ↦ rw w.self-inside-is c.self.invariant
]

pub invariant_of-self-2 : goal.invariant_of-self-2
invariant_of-self-2 c = elim c.if-self-x.branch [
  | then-self-x+in_ok-self-inside w ↦ rw w.self-inside-is (record { room = c.self.invariant.room; steps = c.self.invariant.steps; lane = omega (arith, w.in_ok-self-inside.ensures.within) })
  | else-self-x w ↦ rw w.self-inside-is c.self.invariant
]

pub returns-clause-found : goal.returns-clause-found
returns-clause-found c =
    let inside = c.if-self-x.self-inside in
    let lane = inside.lane in
    let low : lane < 8 = elim c.if-self-x.branch [
      | then-self-x+in_ok-self-inside w ↦ rw w.self-inside-is (omega (arith, w.in_ok-self-inside.ensures.within))
      | else-self-x w ↦ rw w.self-inside-is c.self.invariant.lane
    ] in
    let input : slice_index inside.xs lane ≡ c.args.x = elim c.if-self-x.branch [
      | then-self-x+in_ok-self-inside w ↦ rw w.self-inside-is w.in_ok-self-inside.ensures.value
      | else-self-x w ↦ rw w.self-inside-is (omega arith)
    ] in
    let n = c.in_ok-n.n in
    let d : AheadPick = record { buckets = []; r = 0; items = [] } in
    let steps : All (λ (s : AheadPick). IsStep inside.tables.now inside.xs s) inside.steps.items = elim c.if-self-x.branch [
      | then-self-x+in_ok-self-inside w ↦ rw w.self-inside-is c.self.invariant.steps
      | else-self-x w ↦ rw w.self-inside-is c.self.invariant.steps
    ] in
    let tables : inside.tables.now ≡ c.args.self.now = elim c.if-self-x.branch [
      | then-self-x+in_ok-self-inside w ↦ rw w.self-inside-is c.self.view_is
      | else-self-x w ↦ rw w.self-inside-is c.self.view_is
    ] in
    let step = slice_index_or inside.steps.items n d in
    let has : HasPick lane c.args.bucket c.args.r c.in_ok-n.item step = rw c.deref.ensures.value at (c.in_ok-n.ensures.has d) in
    let at : IsPick inside.tables.now (slice_index step.buckets lane) (slice_index inside.xs lane) step.r (slice_index_or step.items lane no_id) = steps n d (omega (arith, c.in_ok-n.ensures.within)) lane low in
    rw (has.of_bucket, has.at_r, has.is_item, input, tables) at at
