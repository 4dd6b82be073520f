use Rattle.std.proofs.Common.{◌≡◌, ℕ, ◌%◌, length, slice_index, slice_index_or, refl, ap, ◌∙◌, arith}
use Rattle.crush_map.specs.crush_types.specs.declared.ItemId.{ItemId}
use Rattle.crush_bucket.specs.Bucket.{BucketView, IsItemOf, item_at}
use Rattle.crush_bucket.specs.Eight.{IsPickedBy}
use Rattle.crush_bucket.specs.Kinds.{uniform_pick}
use Rattle.crush_bucket.specs.Pick.{pick}
use Rattle.crush_bucket.specs.Private.Asked.{IsAsked}
use Rattle.crush_hash.specs.Permutation.{permutation, no_id}
use Rattle.crush_bucket.proofs.uniform_lanes.pick_uniforms.Goals as goal

-- the item at the member that an attempt asks for is what a uniform bucket picks
lane_is : (b : BucketView) (place x r : ℕ) (id : ItemId) (size member : ℕ) (item : ItemId) → IsAsked b place r id size → member ≡ slice_index (permutation id size x) place → item ≡ item_at b.items member → IsItemOf b.items item → IsPickedBy b x r item
unfolding pick uniform_pick
lane_is b place x r id size member item asked is value among =
    let found : member ≡ slice_index (permutation b.id (length b.items) x) (r % length b.items) = is ∙ rw (asked.of_id, asked.of_size, asked.at) refl in
    record { picked = rw asked.uniform (value ∙ ap (λ (k : ℕ). item_at b.items k) found); is_item = among }

pub eight_members-members-requires : goal.eight_members-members-requires
eight_members-members-requires c lane low =
    (c.in_ok-ids.ensures lane c.index-buckets-0.result low).within

pub items_of-requires : goal.items_of-requires
items_of-requires c lane d low =
    let asked = c.in_ok-ids.ensures lane d low in
    omega (arith, c.eight_members-members.ensures.within lane low, asked.of_size)

pub returns : goal.returns
returns c lane d low =
    let place = c.in_ok-place.place in
    let members = c.eight_members-members.result in
    let items = c.items_of.result in
    let asked = c.in_ok-ids.ensures lane d low in
    lane_is (slice_index_or c.args.buckets.now lane d).now place (slice_index c.args.xs.now lane) c.args.r (slice_index_or c.in_ok-ids.ids lane no_id) (slice_index c.in_ok-ids.sizes lane) (slice_index members lane) (slice_index_or items lane no_id)
    asked (c.eight_members-members.ensures.members lane low) (c.items_of.ensures.value lane d low) (c.items_of.ensures.item lane d low)
