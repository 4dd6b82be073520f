use Rattle.std.proofs.Common.{◌≡◌, ℕ, ◌<◌, List, [], ◌∷◌, length, slice_index, slice_index_or, Bor, ap, subst, ◌∙◌, arith}
use Rattle.std.proofs.lemmas.List.{get_or_default}
use Rattle.crush_bucket.specs.declared.any.AnyBucket.{AnyBucket}
use Rattle.crush_bucket.specs.Bucket.{BucketView}
use Rattle.crush_bucket.specs.Eight.{IsPickedBy}
use Rattle.crush_hash.specs.Permutation.{no_id}
use Rattle.crush_hash.proofs.MemberLanes.{below_eight}
use Rattle.crush_bucket.proofs.walks.pick_trees.Goals as goal

-- a tree is the bucket from which it was taken
here : (buckets : List (Bor AnyBucket)) (n : ℕ) (found d : Bor AnyBucket) (tree : BucketView) → n < length buckets → tree ≡ (slice_index_or buckets n found).now → tree ≡ (slice_index_or buckets n d).now
here buckets n found d tree within is =
    is ∙ ap (λ (b : Bor AnyBucket). b.now) (get_or_default buckets n found d within)

pub returns : goal.returns
returns c lane d low =
    let buckets = c.args.buckets.now in
    let first = c.in_ok-tree.field-0 in
    let trees : List BucketView = c.in_ok-tree.field-0 ∷ c.in_ok-tree-2.field-0 ∷ c.in_ok-tree-3.field-0 ∷ c.in_ok-tree-4.field-0 ∷ c.in_ok-tree-5.field-0 ∷ c.in_ok-tree-6.field-0 ∷ c.in_ok-tree-7.field-0 ∷ c.in_ok-tree-8.field-0 ∷ [] in
    let are = below_eight (λ (n : ℕ). slice_index_or trees n first ≡ (slice_index_or buckets n d).now)
    (here buckets 0 c.index-buckets-0.result d c.in_ok-tree.field-0 (omega arith) c.in_ok-tree.ensures)
    (here buckets 1 c.index-buckets-1.result d c.in_ok-tree-2.field-0 (omega arith) c.in_ok-tree-2.ensures)
    (here buckets 2 c.index-buckets-2.result d c.in_ok-tree-3.field-0 (omega arith) c.in_ok-tree-3.ensures)
    (here buckets 3 c.index-buckets-3.result d c.in_ok-tree-4.field-0 (omega arith) c.in_ok-tree-4.ensures)
    (here buckets 4 c.index-buckets-4.result d c.in_ok-tree-5.field-0 (omega arith) c.in_ok-tree-5.ensures)
    (here buckets 5 c.index-buckets-5.result d c.in_ok-tree-6.field-0 (omega arith) c.in_ok-tree-6.ensures)
    (here buckets 6 c.index-buckets-6.result d c.in_ok-tree-7.field-0 (omega arith) c.in_ok-tree-7.ensures)
    (here buckets 7 c.index-buckets-7.result d c.in_ok-tree-8.field-0 (omega arith) c.in_ok-tree-8.ensures) in
    subst (λ (b : BucketView). IsPickedBy b (slice_index c.args.xs.now lane) c.args.r (slice_index_or c.walk_down.result lane no_id)) (are lane low) (c.walk_down.ensures lane first low)
