use Rattle.std.proofs.Common.{◌≡◌, ◌<◌, ◌≤◌, length, slice_index_or, sym, ◌∙◌, arith}
use Rattle.std.proofs.lemmas.Grind.{common_steps}
use Rattle.crush_types.proofs.DeviceValues.{in_table, past_table}
use Rattle.crush_types.proofs.by_device.DeviceVec.get.Goals as goal

pub returns-in-Some : goal.returns-in-Some
returns-in-Some g c =
    let found = c.in-Some.ensures.lookup in
    let within : c.args.id < length c.self.inside.table.items = rw c.as_slice.ensures.value at found.3.0 in
    let is : c.in-Some.value.now ≡ slice_index_or c.self.inside.table.items c.args.id c.self.inside.rest = rw c.as_slice.ensures.value at (found.3.1 c.self.inside.rest) in
    rw (← c.self.view_is) (is ∙ sym (in_table c.self.inside.rest c.self.inside.table.items c.args.id within))

pub returns-in-None : goal.returns-in-None
returns-in-None g c =
    let past : length c.self.inside.table.items ≤ c.args.id = grind (arith, common_steps, c.in-None.ensures.lookup) in
    rw (← c.self.view_is) (sym (past_table c.self.inside.rest c.self.inside.table.items c.args.id past))
