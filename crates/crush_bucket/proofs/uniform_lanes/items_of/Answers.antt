use Rattle.std.proofs.Common.{◌≡◌, ℕ, slice_index, slice_index_or, subst, ◌∙◌, arith}
use Rattle.std.proofs.lemmas.List.{get_or_default, length-set}
use Rattle.crush_map.specs.crush_types.specs.declared.ItemId.{ItemId}
use Rattle.crush_bucket.specs.Bucket.{item_at, IsItemOf}
use Rattle.crush_hash.specs.Permutation.{no_id}
use Rattle.crush_hash.proofs.MemberLanes.{more_set}
use Rattle.crush_bucket.proofs.uniform_lanes.items_of.Goals as goal

pub item-requires : goal.item-requires
item-requires c = c.requires c.loop-lane.lane c.index-buckets-lane.result (omega arith)

pub loop-lane-preserved : goal.loop-lane-preserved
loop-lane-preserved c =
    let l = c.loop-lane in
    let buckets = c.args.buckets.now in
    let places = c.args.places.now in
    let bucket = c.index-buckets-lane.result in
    let at : (d : _) → slice_index_or buckets l.lane bucket ≡ slice_index_or buckets l.lane d = λ d. get_or_default buckets l.lane bucket d (omega arith) in
    record {
      size = length-set l.items l.lane c.item.result ∙ l.invariant.size;
      value = λ n d low. more_set (λ (n : ℕ) (item : ItemId). item ≡ item_at (slice_index_or buckets n d).now.items (slice_index places n)) l.items l.lane c.item.result no_id (omega (arith, l.invariant.size)) (λ n before. l.invariant.value n d before) (subst (λ b. c.item.result ≡ item_at b.now.items (slice_index places l.lane)) (at d) c.item.ensures.value) n low;
      item = λ n d low. more_set (λ (n : ℕ) (item : ItemId). IsItemOf (slice_index_or buckets n d).now.items item) l.items l.lane c.item.result no_id (omega (arith, l.invariant.size)) (λ n before. l.invariant.item n d before) (subst (λ b. IsItemOf b.now.items c.item.result) (at d) c.item.ensures.item) n low;
    }
