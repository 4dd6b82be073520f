use Rattle.std.proofs.Common.{◌≡◌, ℕ, slice_index, slice_index_or, subst, ◌∙◌, arith}
use Rattle.std.proofs.lemmas.List.{get_or_default, length-set}
use Rattle.crush_bucket.specs.Bucket.{BucketView}
use Rattle.crush_bucket.specs.Private.Walks.{GoesOn}
use Rattle.crush_hash.proofs.MemberLanes.{more_set}
use Rattle.crush_bucket.proofs.walks.children.Goals as goal

pub loop-lane-preserved : goal.loop-lane-preserved
loop-lane-preserved c =
    let l = c.loop-lane in
    let trees = c.args.trees.now in
    let goes : ℕ → BucketView → ℕ → Type 0 = λ n b to. GoesOn b c.args.left (slice_index c.args.nodes.now n) (slice_index c.args.hashes.now n) to in
    record {
      size = length-set l.below l.lane c.child.result ∙ l.invariant.size;
      goes = λ n d low. (
          let tree : slice_index_or trees l.lane c.index-trees-lane.result ≡ slice_index_or trees l.lane d = get_or_default trees l.lane c.index-trees-lane.result d (omega arith) in
          let here : goes l.lane (slice_index_or trees l.lane d) c.child.result = subst (λ t. goes l.lane t c.child.result) tree c.child.ensures in
          more_set (λ (n to : ℕ). goes n (slice_index_or trees n d) to) l.below l.lane c.child.result 0 (omega (arith, l.invariant.size)) (λ n before. l.invariant.goes n d before) here n low);
    }

pub returns : goal.returns
returns c lane d low = c.loop-lane.invariant.goes lane d (omega arith)
