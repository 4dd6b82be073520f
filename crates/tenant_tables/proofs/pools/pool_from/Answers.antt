use Rattle.std.proofs.Common.{◌≡◌, true, ap, sym, ◌∙◌}
use Rattle.crush_pool.specs.Exceptions.{are_pairs}
use Rattle.tenant_tables.specs.Rows.{rows_of_pairs}
use Rattle.tenant_tables.proofs.PairRows.{is_made, its_rows, not_refused, pairs_in}
use Rattle.tenant_tables.proofs.pools.pool_from.Goals as goal

-- the exceptions are those of no pairs
pub returns-in_default-2-clause-none : goal.returns-in_default-2-clause-none
returns-in_default-2-clause-none c = λ _ p valid row rows.
    let settings = c.in-Some.ensures.some in
    c.in_ok-pairs.ensures.none c.in_default-2.is p.pairs (pairs_in p valid)
    (its_rows c.args.row c.in-Some.pool settings.1 c.args.exceptions.now p row c.parts.result.now.id (ap (λ q. q.id) c.parts.ensures.same) rows)

-- the pool with its pairs
pub returns-in_ok-new-in-Ok-clause-some : goal.returns-in_ok-new-in-Ok-clause-some
returns-in_ok-new-in-Ok-clause-some c =
    let settings = c.in-Some.ensures.some in
    let items = c.in-Some-2.pairs.items in
    let read = rw c.in-Some-2.is at c.in_ok-pairs.ensures.some in
    let are : are_pairs c.in-Some.pool.pg_num items ≡ true = sym (rw c.in-Ok.is at c.in_ok-exceptions.ensures.there) in
    let made : c.in-Ok.exceptions ≡ items = rw c.in-Ok.is at c.in_ok-exceptions.ensures.pairs in
    let parts = c.in_ok-new-in-Ok.ensures.ok in
    let pairs = c.in_ok-exceptions-in-Ok.ensures ∙ made in
    is_made c.args.row c.in-Some.pool settings.1 c.args.exceptions.now items c.of.result c.requires settings.0 are (read ∙ ap (λ n. rows_of_pairs n 0 items) (ap (λ q. q.id) c.parts.ensures.same))
    (c.of.ensures ∙ (λ i. record { parts = parts i; pairs = pairs i }))

-- the pool can not have the pairs
pub returns-in-Err-clause-none : goal.returns-in-Err-clause-none
returns-in-Err-clause-none c = λ _ p valid row rows.
    let settings = c.in-Some.ensures.some in
    let read = rw c.in-Some-2.is at c.in_ok-pairs.ensures.some in
    let refused = rw c.in-Err.is at c.in_ok-exceptions.ensures.there in
    not_refused c.args.row c.in-Some.pool settings.1 c.args.exceptions.now p row c.parts.result.now.id c.in-Some-2.pairs.items valid (ap (λ q. q.id) c.parts.ensures.same) read refused rows
