use Rattle.std.proofs.Common.{◌∙◌, ap}
use Rattle.crush_types.specs.Private.Padded.{padded}
use Rattle.crush_types.proofs.DeviceValues.{has_none, nothing_given}
use Rattle.crush_types.proofs.by_device.DeviceVec.new.Goals as goal

pub returns-clause-all : goal.returns-clause-all
returns-clause-all g c = has_none c.args.rest c.reach.new.table.items (c.reach.ensures.same ∙ ap (padded c.args.rest) c.new-table.ensures.items)

pub returns-clause-none : goal.returns-clause-none
returns-clause-none g c = has_none c.args.rest c.reach.new.table.items (c.reach.ensures.same ∙ ap (padded c.args.rest) c.new-table.ensures.items) ∙ nothing_given c.args.rest
