use Rattle.serde_json.specs.View.{view}
use Rattle.tenant_core.proofs.InForm.{changes_order, csv_order, pool_number}
use Rattle.tenant_core.proofs.Reading.{pool_read}
use Rattle.tenant_core.proofs.route.read.Goals as goal

pub returns-in_ok-number-in-CreatePool : goal.returns-in_ok-number-in-CreatePool
returns-in_ok-number-in-CreatePool c =
    rw c.in-CreatePool.is (pool_read c.args.target.now c.args.body.now c.in_ok-body-in-CreatePool.body.now c.in_ok-number-in-CreatePool.number _ c.in_ok-number-in-CreatePool.pool
    c.command-in-CreatePool.result c.in_ok-body-in-CreatePool.ensures c.in_ok-read_value-in-CreatePool.ensures c.in_ok-number-in-CreatePool.ensures c.command-in-CreatePool.ensures)

-- an order that is read is in its ranges
pub command-requires-in-ChangeDevices-clause-order :
    goal.command-requires-in-ChangeDevices-clause-order
command-requires-in-ChangeDevices-clause-order c = changes_order (view c.in_ok-read_value-in-ChangeDevices.field-0) _ c.in_ok-number-in-ChangeDevices.ensures

pub command-requires-in-ChangeDevicesByCsv-clause-order :
    goal.command-requires-in-ChangeDevicesByCsv-clause-order
command-requires-in-ChangeDevicesByCsv-clause-order c = csv_order (view c.in_ok-read_value-in-ChangeDevicesByCsv.field-0) _ c.in_ok-number-in-ChangeDevicesByCsv.ensures

pub command-requires-in-CreatePool-clause-number :
    goal.command-requires-in-CreatePool-clause-number
command-requires-in-CreatePool-clause-number c = pool_number (view c.in_ok-read_value-in-CreatePool.field-0) _ c.in_ok-number-in-CreatePool.ensures
