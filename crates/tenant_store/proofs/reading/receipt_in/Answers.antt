use Rattle.std.proofs.Common.{subst, string_bytes}
use Rattle.table_schema.specs.sqlite_value.specs.declared.value.Value.TheVariants.{Text as Words}
use Rattle.table_schema.specs.Found.{AreReceipt}
use Rattle.table_schema.specs.Holds.{rows_with}
use Rattle.tenant_store.proofs.Receipts.{is_none, is_some_row, not_refused}
use Rattle.tenant_store.proofs.reading.receipt_in.Goals as goal

pub returns-in-None-clause-found : goal.returns-in-None-clause-found
returns-in-None-clause-found c number receipts rows same ranges order are = is_none number receipts rows same order (subst (AreReceipt (rows_with 0 (Words number) rows)) c.in-None.is are)

pub returns-in-Some-2-clause-found : goal.returns-in-Some-2-clause-found
returns-in-Some-2-clause-found c number receipts rows same ranges order are =
    let read = rw c.in-Some-2.is at c.in_ok-_number-in-Some.ensures.some in
    is_some_row number receipts rows same order c.in-Some.row (string_bytes c.in-Some-2._number, c.in-Some-2.receipt.value) (subst (AreReceipt (rows_with 0 (Words number) rows)) c.in-Some.is are) read.1

pub returns-in-None-2-clause-damaged : goal.returns-in-None-2-clause-damaged
returns-in-None-2-clause-damaged c fault number receipts rows same ranges order are =
    not_refused number receipts rows same order ranges c.in-Some.row (subst (AreReceipt (rows_with 0 (Words number) rows)) c.in-Some.is are) (c.in_ok-_number-in-Some.ensures.none c.in-None-2.is)
