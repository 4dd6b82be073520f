use Rattle.std.proofs.Common.{◌≡◌, ◌<◌, ◌+◌, ◌++◌, ◌∷◌, [], pos, map, length, take, drop, slice_index_or, arith, ap, subst, sym, ◌∙◌}
use Rattle.std.proofs.lemmas.List.{length-take-le, map_push}
use Rattle.table_schema.specs.Values.{exception_row}
use Rattle.table_schema.specs.declared.values.ExceptionRow.{ExceptionRow}
use Rattle.tenant_tables.specs.Rows.{rows_of_pairs}
use Rattle.tenant_tables.proofs.PairRows.{all_of, item_is, more_pairs, no_pairs, one_more}
use Rattle.tenant_tables.proofs.pools.pairs_from.Goals as goal

none : ExceptionRow
none = record { pool = pos 0; place = pos 0; group = pos 0; from = pos 0; to = pos 0 }

-- a row is that of no pair
pub returns-in-None-clause-none : goal.returns-in-None-clause-none
unfolding none
returns-in-None-clause-none c = λ _ pairs valid same.
    let rows = c.args.rows.now in
    let i = c.loop-row.row-index in
    let low : i < length rows = omega arith in
    let all = all_of rows i (slice_index_or rows i none) low (item_is rows i none low) in
    no_pairs (take i rows) (slice_index_or rows i none) (drop (i + 1) rows) c.args.pool 0 c.len-place.result
    (omega (arith, c.len-place.ensures, c.loop-row.invariant.count, length-take-le i rows (omega (arith, low))))
    (c.pair_from.ensures.none c.in-None.is) pairs valid (subst (λ l. map exception_row l ≡ rows_of_pairs c.args.pool 0 pairs) all same)

-- one more pair
pub loop-row-preserved : goal.loop-row-preserved
unfolding none
loop-row-preserved c =
    let rows = c.args.rows.now in
    let i = c.loop-row.row-index in
    let low : i < length rows = omega arith in
    let pairs = c.loop-row.pairs.items in
    let grown : c.push.new.self.items ≡ pairs ++ c.in-Some.pair ∷ [] = c.in_ok-push-in-Some.ensures.items in
    let place : c.len-place.result ≡ 0 + length pairs = omega (arith, c.len-place.ensures) in record {
      count = omega (arith, c.in_ok-push-in-Some.ensures.len, c.loop-row.invariant.count);
      read = ap (map exception_row) (one_more rows i (slice_index_or rows i none) low (item_is rows i none low))
          ∙ (map_push exception_row (take i rows) (slice_index_or rows i none)
          ∙ (ap (λ l. l ++ exception_row (slice_index_or rows i none) ∷ []) c.loop-row.invariant.read
          ∙ (ap (λ r. rows_of_pairs c.args.pool 0 pairs ++ r ∷ []) c.in-Some.ensures.some
          ∙ (sym (more_pairs c.args.pool 0 c.len-place.result pairs c.in-Some.pair place) ∙ ap (rows_of_pairs c.args.pool 0) (sym grown)))));
    }
