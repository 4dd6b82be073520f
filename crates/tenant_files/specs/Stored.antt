-- What a stop may leave of tenants.
use Rattle.sqlite.specs.Held.{Held, state}
use Rattle.sqlite.specs.Store.{Ghosts}
use Rattle.tenant_store.specs.table_schema.specs.sqlite_trees.specs.Tree.{Trees}
use Rattle.tenant_core.specs.States.{Outcomes, Shows}
use Rattle.tenant_store.specs.tenant_tables.specs.Rows.{StandsFor}

-- after a stop now, rows that the connection may leave show `found` of the name
abbrev pub MayStandFor : {S : Type 0} → Ghosts S → Held S → Outcomes
MayStandFor g conn t found = (db : Trees) × (state g conn).may_leave db × Shows (StandsFor db) t found
