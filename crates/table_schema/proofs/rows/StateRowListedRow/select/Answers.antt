use Rattle.table_schema.proofs.Listing.{devices}
use Rattle.table_schema.proofs.rows.StateRowListedRow.select.Goals as goal

pub returns : goal.returns
returns c = devices
