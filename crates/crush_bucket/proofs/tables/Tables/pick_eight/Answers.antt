use Rattle.std.proofs.Common.{◌≡◌, ℕ, ◌<◌, slice_index, slice_index_or, refl, ap, sym, ◌∙◌, arith}
use Rattle.std.proofs.lemmas.Grind.{get_or_default_zero}
use Rattle.std.proofs.lemmas.List.{length-set}
use Rattle.crush_bucket.specs.Eight.{IsPickedBy}
use Rattle.crush_hash.specs.Permutation.{no_id}
use Rattle.crush_hash.proofs.MemberLanes.{more_set}
use Rattle.crush_bucket.specs.Ahead.{ArePicks}
use Rattle.crush_bucket.specs.Tables.{bucket_at}
use Rattle.crush_bucket.proofs.Ahead.{lane_is, if_some}
use Rattle.crush_bucket.proofs.tables.Tables.pick_eight.Goals as goal

pub returns-then-are_one : goal.returns-then-are_one
returns-then-are_one c =
    let t = c.args.self.now in
    let buckets = c.args.buckets.now in
    let xs = c.args.xs.now in
    let first = c.in_ok-first.first.now in
    let number : slice_index_or buckets 0 c.index-buckets-0.result ≡ slice_index buckets 0 = get_or_default_zero buckets 0 c.index-buckets-0.result (omega arith) in
    let here : first ≡ bucket_at t (slice_index buckets 0) = c.in_ok-first.ensures ∙ ap (λ (k : ℕ). bucket_at t k) number in
    let one : (lane : ℕ) → lane < 8 → slice_index buckets lane ≡ slice_index buckets 0 = c.are_one.ensures c.if-are_one.true in
    if_some (λ items. (lane : ℕ) → lane < 8 → IsPickedBy first (slice_index xs lane) c.args.r (slice_index_or items lane no_id)) (ArePicks t buckets xs c.args.r) c.pick_alike.result
    (λ items is lane low. lane_is t (slice_index buckets lane) (slice_index xs lane) c.args.r first (slice_index_or items lane no_id) (here ∙ ap (λ (k : ℕ). bucket_at t k) (sym (one lane low))) (is lane low))
    c.pick_alike.ensures

pub loop-lane-init : goal.loop-lane-init
loop-lane-init c =
    let t = c.args.self.now in
    let buckets = c.args.buckets.now in
    let first = c.in_ok-first.first in
    let number : slice_index_or buckets 0 c.index-buckets-0.result ≡ slice_index buckets 0 = get_or_default_zero buckets 0 c.index-buckets-0.result (omega arith) in
    let here : first.now ≡ bucket_at t (slice_index buckets 0) = c.in_ok-first.ensures ∙ ap (λ (k : ℕ). bucket_at t k) number in
    record { size = refl; each = λ n d low. (let zero : n ≡ 0 = omega (arith, low) in rw zero here) }

pub loop-lane-preserved : goal.loop-lane-preserved
loop-lane-preserved c =
    let l = c.loop-lane in
    let t = c.args.self.now in
    let buckets = c.args.buckets.now in
    let number : slice_index_or buckets l.lane c.index-buckets-lane.result ≡ slice_index buckets l.lane = get_or_default_zero buckets l.lane c.index-buckets-lane.result (omega arith) in
    let here = c.in_ok-asked.ensures ∙ ap (λ (k : ℕ). bucket_at t k) number in
    record {
      size = length-set l.asked l.lane c.in_ok-asked.field-0 ∙ l.invariant.size;
      each = λ n d low. more_set (λ n b. b.now ≡ bucket_at t (slice_index buckets n)) l.asked l.lane c.in_ok-asked.field-0 d (omega (arith, l.invariant.size)) (λ n before. l.invariant.each n d before) here n low;
    }

pub returns : goal.returns
returns c =
    let l = c.loop-lane in
    let t = c.args.self.now in
    let first = c.in_ok-first.first in
    let buckets = c.args.buckets.now in
    let xs = c.args.xs.now in
    let r = c.args.r in
    if_some (λ items. (lane : ℕ) (d : _) → lane < 8 → IsPickedBy (slice_index_or l.asked lane d).now (slice_index xs lane) r (slice_index_or items lane no_id)) (ArePicks t buckets xs r) c.pick_side_by_side.result
    (λ items is lane low. lane_is t (slice_index buckets lane) (slice_index xs lane) r (slice_index_or l.asked lane first).now (slice_index_or items lane no_id) (l.invariant.each lane first (omega arith)) (is lane first low))
    c.pick_side_by_side.ensures
