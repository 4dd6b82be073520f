-- Which devices are up, among all ids.
use Rattle.std.proofs.Common.{◌≡◌, ◌<◌, ◌≤◌, ◌-◌, ℕ, Bool, true, List, [], length, drop, slice_index_or, ap, sym, ◌∙◌, arith}
use Rattle.std.proofs.Math.ListN.{drop_of_length-le, get_or-map}
use Rattle.std.proofs.Math.Nat.{le_refl}
use Rattle.std.proofs.lemmas.List.{get_or_default, length-map}
use Rattle.crush_map.specs.crush_types.specs.DeviceValues.{Values, all, values_of, with_value}
use Rattle.crush_map.specs.crush_types.proofs.DeviceValues.{nothing_given, pair_put, value-values_of}
use Rattle.crush_pool.specs.States.{flags_of, is_up, up_at, ups}
use Rattle.crush_pool.specs.declared.states.DeviceState.{DeviceState}

pub flag_of : (states : List DeviceState) (id : ℕ) → up_at (flags_of states) id ≡ is_up states id
unfolding flags_of values_of
flag_of states id = value-values_of true (ups states) id

-- ---- a table by device id, whose rest is up

pub rest_is : (states : List DeviceState) (table : Values Bool) → table ≡ values_of true (ups states) → table.rest ≡ true
unfolding values_of
rest_is states table e = ap (λ (t : Values Bool). t.rest) e

pub all_is : (states : List DeviceState) (table : Values Bool) → table ≡ values_of true (ups states) → table.values ≡ flags_of states
unfolding flags_of
all_is states table e = ap (λ (t : Values Bool). t.values) e

abbrev pair_of : DeviceState → ℕ × Bool
pair_of s = (s.device, s.up)

-- no state so far
pub none_yet : (states : List DeviceState) (table : Values Bool) → table ≡ all true → table ≡ values_of true (drop (length states) (ups states))
none_yet states table e =
    let none : drop (length states) (ups states) ≡ [] = drop_of_length-le (ups states) (rw (length-map states pair_of) (le_refl (length states))) in
    rw none (e ∙ nothing_given true)

-- the state before a place is put into the table of those from the place on
pub state_put : (states : List DeviceState) (table new : Values Bool) (place : ℕ) (d : DeviceState) → 0 < place → place ≤ length states
    → table ≡ values_of true (drop place (ups states)) → new ≡ with_value table (slice_index_or states (place - 1) d).device (slice_index_or states (place - 1) d).up
    → new ≡ values_of true (drop (place - 1) (ups states))
state_put states table new place d some within before is =
    let state = slice_index_or states (place - 1) d in
    let few : place ≤ length (ups states) = rw (length-map states pair_of) within in
    let low : place - 1 < length states = omega (arith, some, within) in
    let there : pair_of state ≡ slice_index_or (ups states) (place - 1) (pair_of state) =
    ap pair_of (get_or_default states (place - 1) d state low) ∙ sym (get_or-map pair_of states (place - 1) state) in
    pair_put true (ups states) table new place (pair_of state) some few before there is
