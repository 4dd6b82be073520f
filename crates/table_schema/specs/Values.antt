-- The values of a tenant's rows, behind the tenant's number.
use Rattle.std.specs.Prelude.{ℕ, ℤ, List, [], ◌∷◌}
use Rattle.sqlite_value.specs.declared.value.Value.TheVariants.{Int, Text as Words}
use Rattle.sqlite_value.specs.Order.{Row}
use Rattle.table_schema.specs.declared.values.ExceptionRow.{ExceptionRow}
use Rattle.table_schema.specs.declared.values.PoolValues.{PoolValues}
use Rattle.table_schema.specs.declared.values.ReceiptValues.{ReceiptValues}
use Rattle.table_schema.specs.declared.values.StateRow.{StateRow}

abbrev pub version_row : ℤ → List ℕ → Row
version_row version text = Int version ∷ Words text ∷ []

abbrev pub state_row : StateRow → Row
state_row state = Int state.device ∷ Int state.reweight ∷ Int state.up ∷ []

abbrev pub pool_row : PoolValues → Row
pool_row pool =
    Int pool.id
    ∷ Words pool.name.now
    ∷ Int pool.erasure
    ∷ Int pool.size
    ∷ Int pool.rule
    ∷ Int pool.pg_num
    ∷ Int pool.pgp_num
    ∷ Int pool.hashpspool
    ∷ Int pool.pairs
    ∷ []

abbrev pub exception_row : ExceptionRow → Row
exception_row e = Int e.pool ∷ Int e.place ∷ Int e.group ∷ Int e.from ∷ Int e.to ∷ []

abbrev pub receipt_row : ReceiptValues → Row
receipt_row receipt =
    Words receipt.request.now ∷ Words receipt.path.now ∷ Words receipt.body.now ∷ Int receipt.status ∷ Words receipt.reply.now ∷ []
