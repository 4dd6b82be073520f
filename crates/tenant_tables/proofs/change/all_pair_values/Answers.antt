use Rattle.std.proofs.Common.{◌≡◌, ◌<◌, ◌+◌, ◌++◌, ◌∷◌, [], map, length, take, slice_index_or, arith, ap, ap₂, sym, ◌∙◌}
use Rattle.std.proofs.lemmas.List.{length-take-le, map_push}
use Rattle.crush_pool.specs.declared.exceptions.Pair.{Pair}
use Rattle.table_schema.specs.Values.{exception_row}
use Rattle.tenant_tables.specs.Rows.{rows_of_pairs}
use Rattle.tenant_tables.proofs.PairRows.{item_is, more_pairs, one_more}
use Rattle.tenant_tables.proofs.change.all_pair_values.Goals as goal

none : Pair
none = record { group = 0; from = 0; to = 0 }

-- one more pair
pub loop-place-preserved : goal.loop-place-preserved
unfolding none
loop-place-preserved c =
    let pairs = c.args.pairs.now in
    let i = c.loop-place.place in
    let low : i < length pairs = omega arith in
    let pair = slice_index_or pairs i none in
    let at : i ≡ 0 + length (take i pairs) = omega (arith, length-take-le i pairs (omega (arith, low))) in record {
      made = ap (map exception_row) c.in_ok-push.ensures.items
          ∙ (map_push exception_row c.loop-place.values.items c.pair_values.result
          ∙ (ap₂ (λ l r. l ++ r ∷ []) c.loop-place.invariant.made c.pair_values.ensures
          ∙ (sym (more_pairs c.args.pool 0 i (take i pairs) pair at) ∙ ap (rows_of_pairs c.args.pool 0) (sym (one_more pairs i pair low (item_is pairs i none low))))));
    }
