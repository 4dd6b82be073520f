use Rattle.std.proofs.Common.{◌≡◌, ◌<◌, ◌≤◌, ◌+◌, ◌*◌, ◌-◌, suc, pos, ◌∙◌, sym, refl, arith, true, false, drop, length, slice_index_or, rules, SFits, w32}
use Rattle.std.specs.List.{list_any}
use Rattle.std.proofs.Math.Seq.{drop-length}
use Rattle.std.proofs.lemmas.Int.{to_z-of_z}
use Rattle.std.proofs.lemmas.List.{take_rest}
use Rattle.crush_bucket.specs.Bucket.{WeightedItem}
use Rattle.crush_map.specs.crush_types.specs.declared.limits.TheConstants.{ID_COUNT}
use Rattle.tenant_reports.specs.Picks.{is_of_item}
use Rattle.tenant_reports.proofs.Seen.{none_seen, one_more_distinct, one_more_seen, stands_again}
use Rattle.tenant_reports.proofs.picks.are_many_distinct.Goals as goal

abbrev none : WeightedItem
none = (record { 0 = pos 0 }, record { 0 = 0 })

pub loop-place-init : goal.loop-place-init
loop-place-init c = record { seen = none_seen (2 * ID_COUNT) c.args.entries.now; distinct = rw (drop-length c.args.entries.now) refl }

pub returns-then-is_again : goal.returns-then-is_again
returns-then-is_again c =
    let es = c.args.entries.now in
    let place = c.loop-place.place - 1 in
    let more : place + 1 ≡ suc place = omega arith in
    let fits : SFits w32 (slice_index_or es place none).0.0 = search rules in
    let item = to_z-of_z w32 (slice_index_or es place none).0.0 fits in
    let again : list_any (is_of_item (slice_index_or es place none).0.0) (drop (suc place) es) ≡ true = sym (rw (take_rest es (place + 1), more, item) at c.is_again.ensures) ∙ c.if-is_again.true in
    sym (stands_again es place none (omega (arith, c.loop-place.auto.place, c.loop-place-test.true)) again)

pub loop-place-preserved : goal.loop-place-preserved
loop-place-preserved c =
    let es = c.args.entries.now in
    let place = c.loop-place.place in
    let some : 0 < place = omega (arith, c.loop-place-test.true) in
    let within : place ≤ length es = omega (arith, c.loop-place.auto.place) in
    let more : place - 1 + 1 ≡ place = omega (arith, some) in
    let fits : SFits w32 (slice_index_or es (place - 1) none).0.0 = search rules in
    let item = to_z-of_z w32 (slice_index_or es (place - 1) none).0.0 fits in
    let new : list_any (is_of_item (slice_index_or es (place - 1) none).0.0) (drop place es) ≡ false =
    sym (rw (take_rest es (place - 1 + 1), more, item) at c.is_again.ensures) ∙ c.if-is_again.false in
    record {
      seen = one_more_seen es place none c.loop-place.seen c.mark.new.seen some within c.loop-place.invariant.seen c.mark.ensures.len (simp item at c.mark.ensures.each);
      distinct = one_more_distinct es place none some within c.loop-place.invariant.distinct new;
    }
