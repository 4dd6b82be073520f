use Rattle.table_schema.proofs.Listing.{versions}
use Rattle.table_schema.proofs.rows.VersionRowListedRow.select.Goals as goal

pub returns : goal.returns
returns c = versions
