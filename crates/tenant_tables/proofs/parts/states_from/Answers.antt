use Rattle.std.proofs.Common.{◌≡◌, ◌++◌, map, true, sym, ap, subst, ◌∙◌}
use Rattle.std.specs.Vec.Iter.{into_iter_items, into_iter_len}
use Rattle.tenant_state.specs.Valid.{is_device_state}
use Rattle.tenant_state.specs.Ordered.{is_ascending}
use Rattle.tenant_state.specs.State.{is_lower_device}
use Rattle.table_schema.specs.Values.{state_row}
use Rattle.tenant_tables.specs.Rows.{row_of_state}
use Rattle.tenant_tables.proofs.Reading.{no_list, same_list, same_state, whole, refused}
use Rattle.tenant_tables.proofs.parts.states_from.Goals as goal

-- a row is that of no state
pub returns-in-None-state_from-clause-none : goal.returns-in-None-state_from-clause-none
returns-in-None-state_from-clause-none c = λ _ parts valid order same.
    let all = ap (λ l. c.loop-row.yielded ++ l) (sym c.in-Some.ensures.steps.0) ∙ c.loop-row.invariant.all in
    no_list state_row row_of_state is_device_state c.loop-row.yielded c.in-Some.row (into_iter_items c.next.new.self)
    (c.state_from.ensures.none c.in-None-state_from.is) parts valid
    (subst (λ l. map state_row l ≡ map row_of_state parts) (sym all) same)

-- the list is out of order
pub returns-in-None-2-clause-none : goal.returns-in-None-2-clause-none
returns-in-None-2-clause-none c = λ _ parts valid order same.
    let all = whole c.loop-row.yielded (into_iter_items c.loop-row.row-iterator) c.args.rows.items (into_iter_len c.loop-row.row-iterator) c.loop-row.invariant.all c.loop-row.invariant.long c.in-None.ensures.steps.0 in
    let read : map state_row c.args.rows.items ≡ map row_of_state c.loop-row.states.items =
    subst (λ l. map state_row l ≡ map row_of_state c.loop-row.states.items) all c.loop-row.invariant.read in
    let equal : parts ≡ c.loop-row.states.items = same_list row_of_state same_state parts c.loop-row.states.items (sym same ∙ read) in
    refused is_lower_device c.loop-row.states.items c.in_ok-devices.field-0 c.in_ok-devices.ensures c.in-None-2.is (subst (λ l. is_ascending is_lower_device l ≡ true) equal order)
