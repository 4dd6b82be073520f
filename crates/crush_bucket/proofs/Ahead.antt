-- What buckets pick side by side is what is picked by their numbers.
use Rattle.std.proofs.Common.{◌≡◌, ℕ, List, Option, None, Some, IfSome, subst}
use Rattle.crush_map.specs.crush_types.specs.declared.ItemId.{ItemId}
use Rattle.crush_bucket.specs.Bucket.{BucketView, IsItemOf}
use Rattle.crush_bucket.specs.Eight.{IsPickedBy}
use Rattle.crush_bucket.specs.Pick.{pick}
use Rattle.crush_bucket.specs.Ahead.{IsPick}
use Rattle.crush_bucket.specs.Tables.{TablesView, bucket_at, pick_at}

-- what a bucket picks is what is picked by its number
pub lane_is : (t : TablesView) (number x r : ℕ) (b : BucketView) (item : ItemId) → b ≡ bucket_at t number → IsPickedBy b x r item → IsPick t number x r item
unfolding pick_at
lane_is t number x r b item is of =
    let both = subst (λ (a : BucketView). (item ≡ pick a x r) × IsItemOf a.items item) is (of.picked, of.is_item) in
    record { picked = both.0; is_item = both.1 }

pub if_some : (P : List ItemId → Type 0) (Q : List ItemId → Type 0) (o : Option (List ItemId)) → ((items : List ItemId) → P items → Q items) → IfSome o P → IfSome o Q
if_some P Q None all is = tt
if_some P Q (Some items) all is = all items is
