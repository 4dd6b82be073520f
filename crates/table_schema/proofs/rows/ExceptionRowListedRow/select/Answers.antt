use Rattle.table_schema.proofs.Listing.{exceptions}
use Rattle.table_schema.proofs.rows.ExceptionRowListedRow.select.Goals as goal

pub returns : goal.returns
returns c = exceptions
