use mir.Val.{SFits}
use mir.Syntax.{w64}
use Rattle.std.proofs.Common.{◌≡◌, ◌==◌, ◌++◌, ◌∷◌, [], map, length, true, true≢false, rules, arith, sym, ap, ap₂, subst, ◌∙◌}
use Rattle.std.specs.List.{list_all}
use Rattle.std.specs.Vec.Iter.{into_iter_items, into_iter_len}
use Rattle.std.proofs.lemmas.Int.{to_z-of_z}
use Rattle.std.proofs.lemmas.List.{append-nil, length-map, map_push}
use Rattle.table_schema.specs.sqlite_keyed.proofs.ListLemmas.{list_all_push}
use Rattle.tenant_state.specs.Ordered.{is_ascending}
use Rattle.tenant_state.specs.State.{is_lower_pool}
use Rattle.tenant_state.specs.Valid.{is_tenant_pool}
use Rattle.table_schema.specs.Found.{pool_values}
use Rattle.table_schema.specs.Values.{exception_row}
use Rattle.tenant_tables.specs.Rows.{row_of_pool, rows_of_exceptions}
use Rattle.tenant_tables.proofs.PairRows.{count_of, its_own, next_read, pairs_read, same_pools, there_are}
use Rattle.tenant_tables.proofs.Reading.{push_front, refused, whole}
use Rattle.tenant_tables.proofs.pools.pools_from.Goals as goal

-- there are fewer exceptions than a row says
pub returns-in_default-clause-none : goal.returns-in_default-clause-none
returns-in_default-clause-none c = λ _ pools valid order same rows.
    let row = c.in-Some.row in
    let left = c.loop-row.left.now in
    let mine = map (λ p. p.value) c.loop-row.pools.items in
    let fits : SFits w64 row.pairs = search rules in
    let all = ap (λ l. c.loop-row.yielded ++ l) (sym c.in-Some.ensures.steps.0) ∙ c.loop-row.invariant.all in
    let next = next_read c.loop-row.yielded (into_iter_items c.next.new.self) c.args.rows.items row mine pools c.args.exceptions.now left all c.loop-row.invariant.read c.loop-row.invariant.pairs valid same rows in
    let many = count_of row next.p next.row_is in
    let short = c.split.ensures.none c.in_default.is (length next.p.pairs) (to_z-of_z w64 row.pairs fits ∙ many) in
    let long = there_are row left next (length next.p.pairs) many in absurd (omega (arith, short, long))

-- a row and its exceptions are those of no pool
pub returns-in-None-2-clause-none : goal.returns-in-None-2-clause-none
returns-in-None-2-clause-none c = λ _ pools valid order same rows.
    let row = c.in-Some.row in
    let left = c.loop-row.left.now in
    let mine = map (λ p. p.value) c.loop-row.pools.items in
    let fits : SFits w64 row.pairs = search rules in
    let all = ap (λ l. c.loop-row.yielded ++ l) (sym c.in-Some.ensures.steps.0) ∙ c.loop-row.invariant.all in
    let next = next_read c.loop-row.yielded (into_iter_items c.next.new.self) c.args.rows.items row mine pools c.args.exceptions.now left all c.loop-row.invariant.read c.loop-row.invariant.pairs valid same rows in
    let parts = c.in-Some-split.ensures.some in
    c.in_ok-pool.ensures.none c.in-None-2.is next.p next.valid next.row_is
    (its_own row left next c.in-Some-split.own.now c.in-Some-split.behind.now parts.0 (sym (to_z-of_z w64 row.pairs fits) ∙ parts.1))

-- one more pool
pub loop-row-preserved : goal.loop-row-preserved
loop-row-preserved c =
    let row = c.in-Some.row in
    let pool = c.in-Some-2.pool in
    let mine = map (λ p. p.value) c.loop-row.pools.items in
    let its = rw c.in-Some-2.is at c.in_ok-pool.ensures.some in
    let parts = c.in-Some-split.ensures.some in
    let grown : map (λ p. p.value) c.push.new.self.items ≡ mine ++ pool ∷ [] =
    ap (map (λ p. p.value)) c.in_ok-push-in-Some-2.ensures.items
    ∙ (map_push (λ p. p.value) c.loop-row.pools.items c.in_ok-new-in-Some-2.field-0 ∙ ap (λ v. mine ++ v ∷ []) c.in_ok-new-in-Some-2.ensures.ok) in record {
      all = push_front c.loop-row.yielded row (into_iter_items c.next.new.self) ∙ (ap (λ l. c.loop-row.yielded ++ l) (sym c.in-Some.ensures.steps.0) ∙ c.loop-row.invariant.all);
      long = omega (arith, c.in-Some.ensures.steps.1, c.loop-row.invariant.long, ap length c.in-Some.ensures.steps.0);
      read = map_push pool_values c.loop-row.yielded row
          ∙ (ap₂ (λ l r. l ++ r ∷ []) c.loop-row.invariant.read its.1 ∙ (sym (map_push row_of_pool mine pool) ∙ ap (map row_of_pool) (sym grown)));
      pairs = pairs_read mine _ pool c.args.exceptions.now c.loop-row.left.now c.in-Some-split.own.now c.in-Some-split.behind.now c.loop-row.invariant.pairs parts.0 its.2 grown;
      valid = subst (λ l. list_all is_tenant_pool l ≡ true) (sym grown) (list_all_push is_tenant_pool mine pool c.loop-row.invariant.valid its.0);
    }

-- exceptions remain, which are those of no pool
pub returns-then-not-is_empty-clause-none : goal.returns-then-not-is_empty-clause-none
returns-then-not-is_empty-clause-none c = λ _ pools valid order same rows.
    let left = c.loop-row.left.now in
    let mine = map (λ p. p.value) c.loop-row.pools.items in
    let all = whole c.loop-row.yielded (into_iter_items c.loop-row.row-iterator) c.args.rows.items (into_iter_len c.loop-row.row-iterator) c.loop-row.invariant.all c.loop-row.invariant.long c.in-None.ensures.steps.0 in
    let read : map pool_values c.args.rows.items ≡ map row_of_pool mine = subst (λ l. map pool_values l ≡ map row_of_pool mine) all c.loop-row.invariant.read in
    let both = same_pools pools mine [] (map exception_row left) (sym same ∙ read) (append-nil (rows_of_exceptions pools) ∙ (sym rows ∙ c.loop-row.invariant.pairs)) in
    let nothing : length left ≡ 0 = sym (length-map left exception_row) ∙ ap length (sym both.1) in
    let empty : c.is_empty.result ≡ true = c.is_empty.ensures ∙ ap (λ n. n == 0) nothing in absurd (true≢false (sym empty ∙ c.if-not-is_empty.true))

-- the list is out of order
pub returns-clause-none : goal.returns-clause-none
returns-clause-none c = λ none pools valid order same rows.
    let left = c.loop-row.left.now in
    let mine = map (λ p. p.value) c.loop-row.pools.items in
    let all = whole c.loop-row.yielded (into_iter_items c.loop-row.row-iterator) c.args.rows.items (into_iter_len c.loop-row.row-iterator) c.loop-row.invariant.all c.loop-row.invariant.long c.in-None.ensures.steps.0 in
    let read : map pool_values c.args.rows.items ≡ map row_of_pool mine = subst (λ l. map pool_values l ≡ map row_of_pool mine) all c.loop-row.invariant.read in
    let both = same_pools pools mine [] (map exception_row left) (sym same ∙ read) (append-nil (rows_of_exceptions pools) ∙ (sym rows ∙ c.loop-row.invariant.pairs)) in
    refused is_lower_pool mine c.from_list.result c.from_list.ensures none (subst (λ l. is_ascending is_lower_pool l ≡ true) both.0 order)
