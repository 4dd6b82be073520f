use Rattle.std.proofs.Common.{◌≡◌, ◌-◌, negsuc, slice_index_or, ap, sym, ◌∙◌, arith}
use Rattle.std.proofs.lemmas.List.{get_or_default, length-set}
use Rattle.crush_map.specs.crush_types.specs.declared.ItemId.{ItemId}
use Rattle.crush_bucket.specs.Tables.{TypedBucket, no_bucket}
use Rattle.crush_bucket.proofs.Numbered.{index_set}
use Rattle.crush_bucket.proofs.index.index_of.Goals as goal

pub put-requires : goal.put-requires
put-requires c =
    let p = c.loop-place.place - 1 in
    let row : c.index-rows-place.result ≡ slice_index_or c.args.rows.now p no_bucket = c.index-rows-place.is ∙ get_or_default c.args.rows.now p c.index-rows-place.result no_bucket (omega arith) in
    let id : (slice_index_or c.args.rows.now p no_bucket).bucket.id.0 ≡ negsuc c.in-Some.n = ap (λ (b : TypedBucket). b.bucket.id.0) (sym row) ∙ (ap (λ (i : ItemId). i.0) (sym c.id.ensures) ∙ c.in-Some.ensures {u = tt}) in
    let low = c.loop-place.invariant.size p c.in-Some.n (omega arith) id in
    grind (arith, low)

pub loop-place-preserved-in-Some : goal.loop-place-preserved-in-Some
loop-place-preserved-in-Some c =
    let p = c.loop-place.place - 1 in
    let row : c.index-rows-place.result ≡ slice_index_or c.args.rows.now p no_bucket = c.index-rows-place.is ∙ get_or_default c.args.rows.now p c.index-rows-place.result no_bucket (omega arith) in
    let id : (slice_index_or c.args.rows.now p no_bucket).bucket.id.0 ≡ negsuc c.in-Some.n = ap (λ (b : TypedBucket). b.bucket.id.0) (sym row) ∙ (ap (λ (i : ItemId). i.0) (sym c.id.ensures) ∙ c.in-Some.ensures {u = tt}) in
    let low = c.loop-place.invariant.size p c.in-Some.n (omega arith) id in
    record {
      size = λ place n below same. rw (c.put.ensures, length-set) (c.loop-place.invariant.size place n below same);
      each = rw c.put.ensures (index_set c.args.rows.now c.loop-place.index.items p c.loop-place.place c.in-Some.n (omega arith) (omega arith) low id c.loop-place.invariant.each);
    }
