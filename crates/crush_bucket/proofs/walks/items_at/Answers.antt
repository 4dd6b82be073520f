use Rattle.std.proofs.Common.{◌≡◌, ℕ, slice_index, slice_index_or, subst, ◌∙◌, arith}
use Rattle.std.proofs.lemmas.List.{get_or_default, length-set}
use Rattle.crush_map.specs.crush_types.specs.declared.ItemId.{ItemId}
use Rattle.crush_bucket.specs.Bucket.{BucketView}
use Rattle.crush_bucket.specs.Private.Walks.{IsPickAt}
use Rattle.crush_hash.specs.Permutation.{no_id}
use Rattle.crush_hash.proofs.MemberLanes.{more_set}
use Rattle.crush_bucket.proofs.walks.items_at.Goals as goal

pub loop-lane-preserved : goal.loop-lane-preserved
loop-lane-preserved c =
    let l = c.loop-lane in
    let trees = c.args.trees.now in
    let picks : ℕ → BucketView → ItemId → Type 0 = λ n b item. IsPickAt b (slice_index c.args.leaves.now n) item in
    record {
      size = length-set l.items l.lane c.item_at.result ∙ l.invariant.size;
      picks = λ n d low. (
          let tree : slice_index_or trees l.lane c.index-trees-lane.result ≡ slice_index_or trees l.lane d = get_or_default trees l.lane c.index-trees-lane.result d (omega arith) in
          let here : picks l.lane (slice_index_or trees l.lane d) c.item_at.result = subst (λ t. picks l.lane t c.item_at.result) tree c.item_at.ensures in
          more_set (λ (n : ℕ) (item : ItemId). picks n (slice_index_or trees n d) item) l.items l.lane c.item_at.result no_id (omega (arith, l.invariant.size)) (λ n before. l.invariant.picks n d before) here n low);
    }

pub returns : goal.returns
returns c lane d low = c.loop-lane.invariant.picks lane d (omega arith)
