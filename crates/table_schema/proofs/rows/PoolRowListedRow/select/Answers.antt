use Rattle.table_schema.proofs.Listing.{pools}
use Rattle.table_schema.proofs.rows.PoolRowListedRow.select.Goals as goal

pub returns : goal.returns
returns c = pools
