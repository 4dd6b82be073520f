-- What the commit of pairs makes of the rows of the tenant.
use Rattle.std.proofs.Common.{◌≡◌, ◌<◌, ◌≤◌, arith, to_z, ℕ, ℤ, pos, true, nat_le, List, [], ◌∷◌, ◌++◌, length, map, fold, not, take, sym, ap, subst, ◌∙◌}
use Rattle.std.specs.List.{AllByRecursion, list_all}
use Rattle.std.specs.List.Sorted.{IsPermutation}
use Rattle.std.proofs.lemmas.List.Sorted.{IsPermutation-cons, IsPermutation-map, IsPermutation-sym, IsPermutation-trans}
use Rattle.std.proofs.lemmas.Int.{to_z_pos}
use Rattle.std.proofs.lemmas.List.{length-map}
use mir.Syntax.{w64}
use Rattle.table_schema.specs.sqlite_value.specs.declared.value.Value.TheVariants.{Int}
use Rattle.table_schema.specs.sqlite_value.specs.declared.keys.Collation.TheVariants.{Binary}
use Rattle.table_schema.specs.sqlite_value.specs.Order.{Row, column}
use Rattle.table_schema.specs.sqlite_schema.specs.Rules.{equal}
use Rattle.table_schema.specs.sqlite_rules.specs.Lists.{Has}
use Rattle.sqlite_trees.specs.Tree.{Trees}
use Rattle.sqlite_trees.proofs.ListLemmas.{IsPermutation-filter}
use Rattle.crush_pool.specs.Exceptions.{are_pairs, is_pair}
use Rattle.crush_pool.specs.declared.exceptions.Pair.{Pair}
use Rattle.crush_pool.specs.declared.limits.TheConstants.{GROUP_LIMIT, PAIR_LIMIT}
use Rattle.tenant_state.specs.State.{Product, NewExceptions}
use Rattle.table_schema.specs.Found.{IsPoolRow, Lists, pool_values}
use Rattle.table_schema.specs.declared.rows.PoolRow.{PoolRow}
use Rattle.table_schema.specs.Holds.{Holds, of_tenant}
use Rattle.table_schema.specs.Layout.{pools_table}
use Rattle.table_schema.specs.Values.{exception_row, pool_row}
use Rattle.table_schema.specs.declared.values.ExceptionRow.{ExceptionRow}
use Rattle.table_schema.specs.declared.values.PoolValues.{PoolValues}
use Rattle.tenant_tables.specs.Change.{Accepts, with_exceptions, with_receipt, without_key}
use Rattle.tenant_tables.specs.declared.commit.CommitHead.{CommitHead}
use Rattle.tenant_tables.proofs.Orders.{are_pools, one_order, pools_rise}
use Rattle.tenant_tables.proofs.Keyed.{at_least}
use Rattle.tenant_tables.proofs.Reading.{first}
use Rattle.tenant_tables.proofs.PairRows.{as_many}
use Rattle.tenant_tables.proofs.PairWrites.{row_put, row_there, rows_added}
use Rattle.tenant_tables.specs.Commits.{HasPoolsFor, with_count, with_new_pairs}
use Rattle.tenant_tables.specs.Rows.{row_of_pool, rows_of_pairs}

-- the query of the pools is not refused
pub not_refused : (old : Trees) (id : ℤ) (m : Product) → HasPoolsFor old id m → ((list : _) → AllByRecursion IsPoolRow list → ¬ Lists (of_tenant pools_table id old) list) → ⊥
not_refused old id m made none = none (map row_of_pool made.i.pools) (are_pools made.i.pools made.has.pools) (record { same = made.rows; rising = pools_rise made.i.pools made.has.pool_order })

-- pairs are not too many
pub few_pairs : (pairs shown : List Pair) → shown ≡ pairs → are_pairs GROUP_LIMIT pairs ≡ true → length shown ≤ PAIR_LIMIT
few_pairs pairs shown same h =
    subst (λ l. length l ≤ PAIR_LIMIT) (sym same) (at_least (length pairs) PAIR_LIMIT (first (nat_le (length pairs) PAIR_LIMIT) (list_all (is_pair GROUP_LIMIT) pairs) h))

-- their number as a machine word
pub count_word : (n pool : ℕ) (es : List ExceptionRow) (pairs shown : List Pair) → n ≡ length es → map exception_row es ≡ rows_of_pairs pool 0 shown → shown ≡ pairs → length shown ≤ PAIR_LIMIT → to_z w64 n ≡ pos (length pairs)
count_word n pool es pairs shown long rows same few =
    let many : n ≡ length shown = long ∙ (sym (length-map es exception_row) ∙ (ap length rows ∙ as_many pool 0 shown)) in
    let low : n < 9223372036854775808 = omega (arith, many, few) in to_z_pos w64 n low ∙ ap pos (many ∙ ap length same)

pub number_is : (row : PoolRow) (values : PoolValues) (count : ℤ) → pool_row values ≡ take 8 (pool_values row) ++ Int count ∷ [] → values.id ≡ row.id
number_is row values count is = cc

module _ (old : Trees) (id : ℤ) (pool : ℕ) (pairs : List Pair) (made : HasPoolsFor old id (NewExceptions pool pairs)) (list : List Row) (listed : Lists (of_tenant pools_table id old) list) where
  -- the rows that were read are those of the pools
  are_rows : list ≡ map row_of_pool made.i.pools
  are_rows = one_order _ _ _ listed.rising (pools_rise made.i.pools made.has.pool_order) listed.same made.rows

  -- and that of the pool is among them
  pub is_read : ((row : Row) → Has list row → column row 0 ≡ Int (pos pool) → ⊥) → ⊥
  is_read none =
      let it = row_there pool pairs made.i.pools made.suits_it in
      none it.0 (subst (λ l. Has l it.0) (sym are_rows) it.1) it.2

  -- what is written in place of it is what is made
  pub paired : (a : CommitHead) → a.id ≡ id → (new : Trees) (row : Row) (values : PoolValues) (es : List ExceptionRow) → Has list row → column row 0 ≡ Int (pos pool) → values.id ≡ pos pool
      → pool_row values ≡ take 8 row ++ Int (pos (length pairs)) ∷ [] → map exception_row es ≡ rows_of_pairs pool 0 pairs → Accepts a (with_exceptions values es) old new → Accepts a (with_new_pairs pool pairs) old new
  paired a own new row values es has key number is are accepts name rows e held at raised =
      let turn = accepts name rows e held at raised in
      record { own = turned turn.own; others = turn.others }
    where
      same : IsPermutation rows.pools (map row_of_pool made.i.pools)
      same = IsPermutation-trans _ _ _ (IsPermutation-sym _ _ (subst (λ n. IsPermutation (of_tenant pools_table n old) rows.pools) (at ∙ own) held.pools)) made.rows

      pools_same : IsPermutation (pool_row values ∷ without_key values.id rows.pools) (map (with_count (pos pool) (pos (length pairs))) rows.pools)
      pools_same =
          let there = subst (λ l. Has l row) are_rows has in
          let one = IsPermutation-cons (pool_row values) _ _ (IsPermutation-filter (λ r. not (equal Binary (column r 0) (Int values.id))) rows.pools (map row_of_pool made.i.pools) same) in
          let put = row_put pool (pos (length pairs)) made.i.pools row made.has.pool_order there key in
          let two : IsPermutation (pool_row values ∷ without_key values.id (map row_of_pool made.i.pools)) (map (with_count (pos pool) (pos (length pairs))) (map row_of_pool made.i.pools)) =
          subst (λ r. IsPermutation (r ∷ without_key values.id (map row_of_pool made.i.pools)) (map (with_count (pos pool) (pos (length pairs))) (map row_of_pool made.i.pools))) (sym is)
          (subst (λ n. IsPermutation ((take 8 row ++ Int (pos (length pairs)) ∷ []) ∷ without_key n (map row_of_pool made.i.pools)) (map (with_count (pos pool) (pos (length pairs))) (map row_of_pool made.i.pools))) (sym number) put) in
          IsPermutation-trans _ _ _ one (IsPermutation-trans _ _ _ two (IsPermutation-map (with_count (pos pool) (pos (length pairs))) _ _ (IsPermutation-sym _ _ same)))

      exceptions_same : IsPermutation (fold (λ earlier x. exception_row x ∷ earlier) (without_key values.id rows.exceptions) es) (rows_of_pairs pool 0 pairs ++ without_key (pos pool) rows.exceptions)
      exceptions_same =
          subst (IsPermutation (fold (λ earlier x. exception_row x ∷ earlier) (without_key values.id rows.exceptions) es)) (ap (λ l. l ++ without_key values.id rows.exceptions) are ∙ ap (λ n. rows_of_pairs pool 0 pairs ++ without_key n rows.exceptions) number)
          (rows_added es (without_key values.id rows.exceptions))

      turned : Holds new name (record (with_receipt a.receipt (with_exceptions values es rows)) { epoch = e }) → Holds new name (record (with_receipt a.receipt (with_new_pairs pool pairs rows)) { epoch = e })
      turned h = record {
        id = h.id;
        tenant = h.tenant;
        maps = h.maps;
        devices = h.devices;
        receipts = h.receipts;
        pools = IsPermutation-trans _ _ _ h.pools pools_same;
        exceptions = IsPermutation-trans _ _ _ h.exceptions exceptions_same;
      }
