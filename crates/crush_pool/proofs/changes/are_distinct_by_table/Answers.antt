use Rattle.std.proofs.Common.{◌≡◌, None, ◌+◌, ◌-◌, suc, ◌∙◌, sym, refl, arith, true, drop, slice_index_or}
use Rattle.std.specs.List.{list_any}
use Rattle.std.proofs.Math.Seq.{drop-length}
use Rattle.std.proofs.lemmas.List.{take_rest}
use Rattle.crush_map.specs.crush_types.specs.declared.limits.TheConstants.{ID_COUNT}
use Rattle.crush_pool.specs.Changes.{is_of_device}
use Rattle.crush_pool.proofs.Seen.{none_seen, stands_again}
use Rattle.crush_pool.proofs.changes.are_distinct_by_table.Goals as goal

pub loop-place-init : goal.loop-place-init
loop-place-init c = record { seen = none_seen ID_COUNT c.args.changes.now; distinct = rw (drop-length c.args.changes.now) refl }

pub returns-then-is_again : goal.returns-then-is_again
returns-then-is_again c =
    let cs = c.args.changes.now in
    let place = c.loop-place.place - 1 in
    let more : place + 1 ≡ suc place = omega arith in
    let again : list_any (is_of_device (slice_index_or cs place (record { device = 0; reweight = None; up = None })).device) (drop (suc place) cs) ≡ true = sym (rw (take_rest cs (place + 1), more) at c.is_again.ensures) ∙ c.if-is_again.true in
    sym (stands_again cs place (record { device = 0; reweight = None; up = None }) (omega (arith, c.loop-place.auto.place, c.loop-place-test.true)) again)
