use Rattle.std.proofs.Common.{rules}
use Rattle.tenant_core.proofs.Making.{made_in_range, reads_maps}
use Rattle.tenant_core.proofs.commands.accept.Goals as goal

-- an order in its ranges makes something in its ranges
pub returns-in-ImportMap-clause-made : goal.returns-in-ImportMap-clause-made
returns-in-ImportMap-clause-made c =
    made_in_range c.args.order.now c.args.inventory.now c.import.result (search rules) (reads_maps c.texts_are_read_as_they_say.ensures.map) c.requires.order c.requires.valid

pub returns-in-ChangeDevices-clause-made : goal.returns-in-ChangeDevices-clause-made
returns-in-ChangeDevices-clause-made c =
    made_in_range c.args.order.now c.args.inventory.now c.change_devices.result (search rules) (reads_maps c.texts_are_read_as_they_say.ensures.map) c.requires.order c.requires.valid

pub returns-in-CreatePool-clause-made : goal.returns-in-CreatePool-clause-made
returns-in-CreatePool-clause-made c =
    made_in_range c.args.order.now c.args.inventory.now c.create.result (search rules) (reads_maps c.texts_are_read_as_they_say.ensures.map) c.requires.order c.requires.valid
