use Rattle.std.proofs.Common.{◌≡◌, ◌<◌, ◌≤◌, ◌*◌, ℕ, List, length, map, refl, ap, arith, ◌∙◌, true}
use Rattle.std.specs.List.{range_with_len}
use Rattle.std.proofs.lemmas.List.FromFn.{length-map-range_with_len}
use Rattle.crush_choose.specs.Marks.{Slot}
use Rattle.crush_choose.specs.declared.limits.TheConstants.{SIZE_LIMIT}
use Rattle.crush_pool.specs.Placers.{PoolOnMap}
use Rattle.crush_pool.specs.Pools.{is_pool}
use Rattle.crush_pool.specs.declared.limits.TheConstants.{GROUP_LIMIT}
use Rattle.crush_report.proofs.Groups.{lists_more}
use Rattle.crush_report.proofs.OnMaps.{up_few, usage_on}
use Rattle.crush_report.proofs.Short.{groups_few}
use Rattle.crush_report.proofs.Tallies.{entries_few, entries_most, entries_room, filled_room, groups_room, primaries_room, rows_are}
use Rattle.crush_report.specs.OnMaps.{up_on}
use Rattle.crush_report.specs.Private.Tallies.{id_bound}
use Rattle.crush_report.specs.Usage.{all_entries, usage_rows}
use Rattle.crush_report.proofs.usage_counts.usage_with.Goals as goal

-- the up lists of the first n groups
abbrev ups : PoolOnMap → ℕ → List (List Slot)
ups p n = map (up_on p) (range_with_len 0 n)

lists_few : (p : PoolOnMap) (n : ℕ) → length (ups p n) ≤ n
lists_few p n = omega (arith, length-map-range_with_len (up_on p) 0 n)

slots_few : (p : PoolOnMap) (n : ℕ) → is_pool p.pool ≡ true → length (all_entries (ups p n)) ≤ SIZE_LIMIT * n
slots_few p n valid = entries_few (up_on p) 0 n (up_few p valid)

few_groups : (p : PoolOnMap) (n : ℕ) → is_pool p.pool ≡ true → n ≤ p.pool.pg_num → n ≤ GROUP_LIMIT
few_groups p n valid most = omega (arith, most, groups_few p.pool valid)

pub add-requires-clause-short : goal.add-requires-clause-short
add-requires-clause-short c =
    let p = c.args.placer.now in
    let n = c.loop-group.group in
    let is : c.as_slice.result.now ≡ up_on p n = c.as_slice.ensures.value ∙ (c.in_ok-set_up.ensures.up ∙ ap (λ (q : PoolOnMap). up_on q n) c.loop-group.invariant.on) in
    rw is (up_few p c.pool_parts-parts.ensures.valid n)

pub add-requires-clause-groups : goal.add-requires-clause-groups
add-requires-clause-groups c =
    let p = c.args.placer.now in
    let n = c.loop-group.group in
    let below : n < p.pool.pg_num = rw c.pool_parts-parts.ensures.same at c.loop-group-test.true in
    groups_room (id_bound c.devices-devices.result.now) n (ups p n) c.loop-group.tally c.loop-group.invariant.tally (lists_few p n) (few_groups p n c.pool_parts-parts.ensures.valid (omega (arith, below)))

pub add-requires-clause-entries : goal.add-requires-clause-entries
add-requires-clause-entries c =
    let p = c.args.placer.now in
    let n = c.loop-group.group in
    let below : n < p.pool.pg_num = rw c.pool_parts-parts.ensures.same at c.loop-group-test.true in
    let valid = c.pool_parts-parts.ensures.valid in
    entries_room (id_bound c.devices-devices.result.now) n (ups p n) c.loop-group.tally c.loop-group.invariant.tally (slots_few p n valid) (few_groups p n valid (omega (arith, below)))

pub add-requires-clause-primaries : goal.add-requires-clause-primaries
add-requires-clause-primaries c =
    let p = c.args.placer.now in
    let n = c.loop-group.group in
    let below : n < p.pool.pg_num = rw c.pool_parts-parts.ensures.same at c.loop-group-test.true in
    primaries_room (id_bound c.devices-devices.result.now) n (ups p n) c.loop-group.tally c.loop-group.invariant.tally (lists_few p n) (few_groups p n c.pool_parts-parts.ensures.valid (omega (arith, below)))

pub add-requires-clause-filled : goal.add-requires-clause-filled
add-requires-clause-filled c =
    let p = c.args.placer.now in
    let n = c.loop-group.group in
    let below : n < p.pool.pg_num = rw c.pool_parts-parts.ensures.same at c.loop-group-test.true in
    let valid = c.pool_parts-parts.ensures.valid in
    filled_room (id_bound c.devices-devices.result.now) n (ups p n) c.loop-group.tally c.loop-group.invariant.tally (slots_few p n valid) (few_groups p n valid (omega (arith, below)))

pub loop-group-preserved : goal.loop-group-preserved
loop-group-preserved c =
    let p = c.args.placer.now in
    let n = c.loop-group.group in
    let is : c.as_slice.result.now ≡ up_on p n = c.as_slice.ensures.value ∙ (c.in_ok-set_up.ensures.up ∙ ap (λ (q : PoolOnMap). up_on q n) c.loop-group.invariant.on) in
    let one = c.add.ensures (id_bound c.devices-devices.result.now) (ups p n) c.loop-group.invariant.tally in
    record { on = c.set_up.ensures.same ∙ c.loop-group.invariant.on; tally = rw (lists_more (up_on p) n) (rw is at one) }

pub rows_of-requires : goal.rows_of-requires
rows_of-requires c id =
    let p = c.args.placer.now in
    let n = c.loop-group.group in
    let end : n ≤ p.pool.pg_num = rw c.pool_parts-parts.ensures.same at c.loop-group.auto.group-end in
    let valid = c.pool_parts-parts.ensures.valid in
    let most = few_groups p n valid end in
    omega (arith, most, entries_most (id_bound c.devices-devices.result.now) n (ups p n) c.loop-group.tally c.loop-group.invariant.tally (slots_few p n valid) id)

pub returns : goal.returns
returns c =
    let p = c.args.placer.now in
    let n = c.loop-group.group in
    let end : n ≤ p.pool.pg_num = rw c.pool_parts-parts.ensures.same at c.loop-group.auto.group-end in
    let above : p.pool.pg_num ≤ n = rw c.pool_parts-parts.ensures.same at c.loop-group-test.false in
    let all : n ≡ p.pool.pg_num = omega (arith, end, above) in
    let tally = rw all at c.loop-group.invariant.tally in
    let rows = c.in_ok-rows.ensures ∙ rows_are (ups p p.pool.pg_num) c.loop-group.tally c.devices-devices.result.now tally in
    let of_map : c.in_ok-rows.rows ≡ usage_rows p.map.devices (ups p p.pool.pg_num) = rows ∙ rw (c.devices-devices.ensures.same, c.map.ensures.same) refl in
    rw of_map (usage_on p c.map.ensures.rule)
