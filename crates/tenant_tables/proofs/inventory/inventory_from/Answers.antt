use Rattle.std.proofs.Common.{◌≡◌, ◌∙◌, rules, true≢false, List, map, pos, ap, sym, subst}
use Rattle.crush_map.specs.Map.{Map}
use Rattle.tenant_state.specs.State.{Inventory}
use Rattle.tenant_state.specs.Valid.{IsInventory}
use Rattle.tenant_tables.specs.Lists.{IsOfState, AreRowsOf}
use Rattle.tenant_tables.proofs.OneState.{one_inventory}
use Rattle.tenant_tables.proofs.inventory.inventory_from.Goals as goal

-- what has the rows is what was made of them
pub returns-else-is_of_state-clause-none : goal.returns-else-is_of_state-clause-none
returns-else-is_of_state-clause-none c = λ _ i is rows.
    let made : Inventory = record {
      versions = map (λ v. v.value) c.in-Some.versions.items;
      devices = c.in-Some-2.devices.value;
      pools = c.in-Some-3.pools;
      epoch = c.in-Ok.epoch;
    } in
    let v = rw c.in-Some.is at c.in_ok-versions.ensures.some in
    let d = rw c.in-Some-2.is at c.in_ok-devices.ensures.some in
    let p = rw c.in-Some-3.is at c.in_ok-pools.ensures.some in
    let number : c.args.epoch ≡ pos c.in-Ok.epoch = search rules in
    let valid : IsInventory made = record { maps = v.0; devices = d.0; device_order = d.1; pools = p.0; pool_order = p.1 } in
    let its : AreRowsOf made c.args.epoch c.args.versions.items c.args.states.items c.args.pools.items c.args.exceptions.now =
    record { epoch_is = number; versions_are = v.1; states_are = d.2; pools_are = p.2; exceptions_are = p.3 } in
    let same = one_inventory c.written_maps_are_read_back.ensures.stored i made c.args.epoch c.args.versions.items c.args.states.items c.args.pools.items c.args.exceptions.now is.has valid rows its in
    let shared = ap (λ (maps : List Map). record made { versions = maps }) c.in_ok-shared.ensures in
    let so = c.is_of_state.ensures.1 (subst IsOfState (same ∙ sym shared ∙ sym c.of-inventory.ensures) is) in true≢false (sym so ∙ c.if-is_of_state.false)
