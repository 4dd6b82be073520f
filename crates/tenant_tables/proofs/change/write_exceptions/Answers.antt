use Rattle.std.proofs.Common.{◌≡◌, ◌∷◌, ◌++◌, [], pos, length, map, take, refl, arith, rules, sym, ap, subst, ◌∙◌}
use mir.Val.{SFits}
use mir.Syntax.{w64}
use Rattle.std.proofs.lemmas.Result.{err_from_is_err_and, on_ok_weaker}
use Rattle.sqlite.proofs.StateLemmas.{survives_then, survives_weaker}
use Rattle.sqlite.specs.Effect.{Database}
use Rattle.sqlite.specs.Held.{state}
use Rattle.sqlite.specs.State.{HasCleanDisk}
use Rattle.sqlite_trees.specs.Tree.{Trees}
use Rattle.table_schema.specs.sqlite_value.specs.declared.value.Value.TheVariants.{Int}
use Rattle.tenant_state.specs.State.{NewExceptions}
use Rattle.table_schema.specs.Found.{Lists, pool_values}
use Rattle.table_schema.specs.Holds.{of_tenant}
use Rattle.table_schema.specs.Layout.{pools_table}
use Rattle.table_schema.specs.Values.{exception_row, pool_row}
use Rattle.tenant_tables.specs.Change.{Accepts, IsNumber, with_exceptions}
use Rattle.tenant_tables.proofs.Accepted.{pools_of, word, word_is}
use Rattle.tenant_tables.proofs.Listed.{is_live, same_fault}
use Rattle.tenant_tables.proofs.PairCommits.{count_word, few_pairs, is_read, not_refused, number_is, paired}
use Rattle.tenant_tables.specs.Commits.{with_new_pairs}
use Rattle.tenant_tables.specs.Rows.{rows_of_pairs}
use Rattle.tenant_tables.proofs.change.write_exceptions.Given as given
use Rattle.tenant_tables.proofs.change.write_exceptions.Goals as goal

-- the query of the pools is not refused
pub returns-in_err-rows-clause-rows : goal.returns-in_err-rows-clause-rows
returns-in_err-rows-clause-rows g c = λ clean damaged.
    let first : HasCleanDisk (state g.S.Store c.args.tables.now.0) = omega (arith, clean, c.in_err-rows.ensures.reads.crash.clean) in
    let p = err_from_is_err_and c.from_residual.result c.from_residual.ensures.1 in
    let fits : SFits w64 c.args.accepted.id = search rules in
    let made = pools_of (state g.S.Store c.args.tables.now.0).now.trees c.args.accepted.id (NewExceptions c.args.pool c.args.exceptions.now) fits (c.requires.suits first) in
    not_refused (state g.S.Store c.args.tables.now.0).now.trees (word c.args.accepted.id) (NewExceptions c.args.pool c.args.exceptions.now) made
    (c.in_err-rows.ensures.damaged clean (same_fault c.from_residual.result _ _ _ p.1 p.2 damaged))

-- the pool is there
pub returns-in_default-clause-rows : goal.returns-in_default-clause-rows
returns-in_default-clause-rows g c = λ clean _.
    let first : HasCleanDisk (state g.S.Store c.args.tables.now.0) = omega (arith, clean, c.in_ok-rows.ensures.reads.crash.clean) in
    let fits : SFits w64 c.args.accepted.id = search rules in
    let made = pools_of (state g.S.Store c.args.tables.now.0).now.trees c.args.accepted.id (NewExceptions c.args.pool c.args.exceptions.now) fits (c.requires.suits first) in
    is_read (state g.S.Store c.args.tables.now.0).now.trees (word c.args.accepted.id) c.args.pool c.args.exceptions.now made (map pool_values c.in_ok-rows.rows.items) (c.in_ok-rows.ensures.found clean)
    (c.row_with.ensures.none c.in_default.is)

pub all_pair_values-requires : goal.all_pair_values-requires
all_pair_values-requires g c = few_pairs c.args.exceptions.now c.pairs-pairs.result.now c.pairs-pairs.ensures.same c.pairs-pairs.ensures.valid

pub commit_exceptions-requires-clause-there : goal.commit_exceptions-requires-clause-there
commit_exceptions-requires-clause-there g c clean =
    let first : HasCleanDisk (state g.S.Store c.args.tables.now.0) = omega (arith, clean, c.in_ok-rows.ensures.reads.crash.clean) in
    let kept = c.in_ok-rows.ensures.reads.kept clean (is_live c.list_of.new.self.1 c.in_ok-rows.rows c.in_ok-rows.ensures.reads.latches.0) in
    subst (λ (d : Database). IsNumber d.trees c.args.accepted.id) (sym kept) (c.requires.there first)

-- how many there are
count_is : (g : given.Over) (c : goal.After-drop-row-2 g) → pool_row c.values_with-pool.result ≡ take 8 (pool_values c.in-Some.row) ++ Int (pos (length c.args.exceptions.now)) ∷ []
count_is g c =
    let few = few_pairs c.args.exceptions.now c.pairs-pairs.result.now c.pairs-pairs.ensures.same c.pairs-pairs.ensures.valid in
    let count = count_word c.len.result c.args.pool c.in_ok-values.values.items c.args.exceptions.now c.pairs-pairs.result.now (omega (arith, c.len.ensures)) c.in_ok-values.ensures c.pairs-pairs.ensures.same few in
    c.values_with-pool.ensures ∙ ap (λ n. take 8 (pool_values c.in-Some.row) ++ Int n ∷ []) count

-- what is written is what is made
turn : (g : given.Over) (c : goal.After-drop-row-2 g) (db : Trees) → HasCleanDisk (state g.S.Store c.list_of.new.self.0)
    → Accepts c.args.accepted (with_exceptions c.values_with-pool.result c.deref.result.now) (state g.S.Store c.list_of.new.self.0).now.trees db
    → Accepts c.args.accepted (with_new_pairs c.args.pool c.args.exceptions.now) (state g.S.Store c.args.tables.now.0).now.trees db
turn g c db clean written =
    let old = (state g.S.Store c.args.tables.now.0).now in
    let first : HasCleanDisk (state g.S.Store c.args.tables.now.0) = omega (arith, clean, c.in_ok-rows.ensures.reads.crash.clean) in
    let kept = c.in_ok-rows.ensures.reads.kept clean (is_live c.list_of.new.self.1 c.in_ok-rows.rows c.in_ok-rows.ensures.reads.latches.0) in
    let fits : SFits w64 c.args.accepted.id = search rules in
    let listed = subst (λ n. Lists (of_tenant pools_table n old.trees) (map pool_values c.in_ok-rows.rows.items)) (word_is c.args.accepted.id fits) (c.in_ok-rows.ensures.found clean) in
    let values = c.values_with-pool.result in
    let it = c.in-Some.ensures.some in
    let are : map exception_row c.deref.result.now ≡ rows_of_pairs c.args.pool 0 c.args.exceptions.now =
    ap (map exception_row) c.deref.ensures.value ∙ (c.in_ok-values.ensures ∙ ap (rows_of_pairs c.args.pool 0) c.pairs-pairs.ensures.same) in
    let still = subst (λ (d : Database). Accepts c.args.accepted (with_exceptions values c.deref.result.now) d.trees db) kept written in
    paired old.trees c.args.accepted.id c.args.pool c.args.exceptions.now (c.requires.suits first) (map pool_values c.in_ok-rows.rows.items) listed c.args.accepted refl db (pool_values c.in-Some.row) values c.deref.result.now
    it.0 (ap Int it.1) (number_is c.in-Some.row values (pos (length c.args.exceptions.now)) (count_is g c) ∙ it.1) (count_is g c) are
    still

pub returns-clause-done : goal.returns-clause-done
returns-clause-done g c clean =
    let mid : HasCleanDisk (state g.S.Store c.list_of.new.self.0) = omega (arith, clean, c.commit_exceptions.ensures.crash.clean) in
    on_ok_weaker c.commit_exceptions.result (turn g c (state g.S.Store c.commit_exceptions.new.self.0).now.trees mid) (c.commit_exceptions.ensures.done clean)

pub returns-clause-crash : goal.returns-clause-crash
returns-clause-crash g c =
    survives_then (state g.S.Store c.args.tables.now.0) (state g.S.Store c.list_of.new.self.0) (state g.S.Store c.commit_exceptions.new.self.0) (λ _. ⊥) _ _ (λ clean db none. absurd none)
    (λ clean db written. turn g c db (omega (arith, clean, c.commit_exceptions.ensures.crash.clean)) written) c.in_ok-rows.ensures.reads.crash c.commit_exceptions.ensures.crash

pub returns-in_err-values-clause-crash : goal.returns-in_err-values-clause-crash
returns-in_err-values-clause-crash g c = survives_weaker _ _ (λ _. ⊥) _ (λ clean db none. absurd none) c.in_ok-rows.ensures.reads.crash
