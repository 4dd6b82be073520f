use Rattle.std.proofs.Common.{◌≡◌, ℕ, slice_index, ◌∙◌, arith}
use Rattle.std.proofs.lemmas.List.{length-set}
use Rattle.crush_map.specs.crush_types.specs.declared.ItemId.{ItemId}
use Rattle.crush_bucket.specs.Pick.{pick}
use Rattle.crush_hash.specs.Permutation.{no_id}
use Rattle.crush_hash.proofs.MemberLanes.{more_set}
use Rattle.crush_bucket.proofs.any.AnyBucket.pick_eight.Goals as goal

pub loop-lane-preserved : goal.loop-lane-preserved
loop-lane-preserved c =
    let l = c.loop-lane in
    let b = c.args.self.now in
    record {
      size = length-set l.items l.lane c.pick.result ∙ l.invariant.size;
      of = c.pick.ensures.same ∙ l.invariant.of;
      picked = more_set (λ (n : ℕ) (item : ItemId). item ≡ pick b (slice_index c.args.xs.now n) c.args.r) l.items l.lane c.pick.result no_id (omega (arith, l.invariant.size)) l.invariant.picked c.pick.ensures.picked;
    }
