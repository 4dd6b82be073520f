use Rattle.std.proofs.Common.{◌≡◌, map, ◌∷◌, OnOk, pos, sym, ap, subst, ◌∙◌, rules}
use mir.Val.{SFits}
use mir.Syntax.{w64}
use Rattle.sqlite.specs.Held.{state}
use Rattle.sqlite.specs.State.{Survives}
use Rattle.crush_text.specs.crush_writing.specs.Canonical.{canonical}
use Rattle.tenant_state.specs.Made.{made_of}
use Rattle.tenant_state.specs.State.{NewExceptions}
use Rattle.tenant_tables.specs.Change.{Accepts, with_pool, with_states, with_version, without_pool}
use Rattle.table_schema.specs.Holds.{TenantRows}
use Rattle.tenant_tables.specs.Commits.{HasPoolsFor, numbers_of, rows_with_made, with_new_pairs}
use Rattle.tenant_tables.specs.Rows.{row_with_count}
use Rattle.tenant_tables.proofs.Accepted.{word, word_is}
use Rattle.tenant_tables.proofs.change.write_made.Given as given
use Rattle.tenant_tables.proofs.change.write_made.Goals as goal

-- ---- a version

version_is : (g : given.Over) (c : goal.After-commit_version g) → with_version (word c.args.number) c.text.result.now ≡ rows_with_made c.args.number (made_of c.args.made.now)
version_is g c =
    ap (λ n. with_version n c.text.result.now) (word_is c.args.number c.ranges.number)
    ∙ ap (with_version c.args.number) (c.text.ensures ∙ ap canonical c.deref.ensures)
    ∙ ap (λ made. rows_with_made c.args.number (made_of made)) (sym c.in-Version.is)

pub returns-in-Version-clause-done : goal.returns-in-Version-clause-done
returns-in-Version-clause-done g c clean =
    subst (λ w. OnOk c.commit_version.result (Accepts c.args.accepted.now w (state g.S.Store c.args.tables.now.0).now.trees (state g.S.Store c.commit_version.new.self.0).now.trees)) (version_is g c) (c.commit_version.ensures.done clean)

pub returns-in-Version-clause-crash : goal.returns-in-Version-clause-crash
returns-in-Version-clause-crash g c =
    subst (λ w. Survives (state g.S.Store c.args.tables.now.0) (state g.S.Store c.commit_version.new.self.0) (Accepts c.args.accepted.now w (state g.S.Store c.args.tables.now.0).now.trees)) (version_is g c) c.commit_version.ensures.crash

-- ---- states of devices

states_is : (g : given.Over) (c : goal.After-write_states g) → with_states (map numbers_of c.as_slice.result.now) ≡ rows_with_made c.args.number (made_of c.args.made.now)
states_is g c =
    ap (λ l. with_states (map numbers_of l)) c.as_slice.ensures
    ∙ ap (λ made. rows_with_made c.args.number (made_of made)) (sym c.in-States.is)

pub returns-in-States-clause-done : goal.returns-in-States-clause-done
returns-in-States-clause-done g c clean =
    subst (λ w. OnOk c.write_states.result (Accepts c.args.accepted.now w (state g.S.Store c.args.tables.now.0).now.trees (state g.S.Store c.write_states.new.tables.0).now.trees)) (states_is g c) (c.write_states.ensures.done clean)

pub returns-in-States-clause-crash : goal.returns-in-States-clause-crash
returns-in-States-clause-crash g c =
    subst (λ w. Survives (state g.S.Store c.args.tables.now.0) (state g.S.Store c.write_states.new.tables.0) (Accepts c.args.accepted.now w (state g.S.Store c.args.tables.now.0).now.trees)) (states_is g c) c.write_states.ensures.crash

-- ---- a pool

pool_is : (g : given.Over) (c : goal.After-commit_pool g) → with_pool c.pool_values-values.result ≡ rows_with_made c.args.number (made_of c.args.made.now)
pool_is g c =
    ap (λ row (rows : TenantRows). record rows { pools = row ∷ rows.pools }) (c.pool_values-values.ensures ∙ ap (λ p. row_with_count p (pos 0)) c.as_ref.ensures)
    ∙ ap (λ made. rows_with_made c.args.number (made_of made)) (sym c.in-Pool.is)

pub returns-in-Pool-clause-done : goal.returns-in-Pool-clause-done
returns-in-Pool-clause-done g c clean =
    subst (λ w. OnOk c.commit_pool.result (Accepts c.args.accepted.now w (state g.S.Store c.args.tables.now.0).now.trees (state g.S.Store c.commit_pool.new.self.0).now.trees)) (pool_is g c) (c.commit_pool.ensures.done clean)

pub returns-in-Pool-clause-crash : goal.returns-in-Pool-clause-crash
returns-in-Pool-clause-crash g c =
    subst (λ w. Survives (state g.S.Store c.args.tables.now.0) (state g.S.Store c.commit_pool.new.self.0) (Accepts c.args.accepted.now w (state g.S.Store c.args.tables.now.0).now.trees)) (pool_is g c) c.commit_pool.ensures.crash

-- ---- exceptions of a pool

pub write_exceptions-requires-clause-suits : goal.write_exceptions-requires-clause-suits
write_exceptions-requires-clause-suits g c clean =
    subst (HasPoolsFor (state g.S.Store c.args.tables.now.0).now.trees c.args.accepted.now.id) (ap made_of c.in-Exceptions.is ∙ ap (NewExceptions c.in-Exceptions.pool) (sym c.exceptions-exceptions.ensures))
    (c.requires.suits clean)

exceptions_is : (g : given.Over) (c : goal.After-write_exceptions g) → with_new_pairs c.in-Exceptions.pool c.exceptions-exceptions.result.now ≡ rows_with_made c.args.number (made_of c.args.made.now)
exceptions_is g c =
    ap (with_new_pairs c.in-Exceptions.pool) c.exceptions-exceptions.ensures
    ∙ ap (λ made. rows_with_made c.args.number (made_of made)) (sym c.in-Exceptions.is)

pub returns-in-Exceptions-clause-done : goal.returns-in-Exceptions-clause-done
returns-in-Exceptions-clause-done g c clean =
    subst (λ w. OnOk c.write_exceptions.result (Accepts c.args.accepted.now w (state g.S.Store c.args.tables.now.0).now.trees (state g.S.Store c.write_exceptions.new.tables.0).now.trees)) (exceptions_is g c) (c.write_exceptions.ensures.done clean)

pub returns-in-Exceptions-clause-crash : goal.returns-in-Exceptions-clause-crash
returns-in-Exceptions-clause-crash g c =
    subst (λ w. Survives (state g.S.Store c.args.tables.now.0) (state g.S.Store c.write_exceptions.new.tables.0) (Accepts c.args.accepted.now w (state g.S.Store c.args.tables.now.0).now.trees)) (exceptions_is g c) c.write_exceptions.ensures.crash

-- ---- no pool

no_pool_is : (g : given.Over) (c : goal.After-commit_no_pool g) → without_pool (word c.from.result) ≡ rows_with_made c.args.number (made_of c.args.made.now)
no_pool_is g c =
    let fits : SFits w64 c.from.result = search rules in
    ap without_pool (word_is c.from.result fits ∙ c.from.ensures)
    ∙ ap (λ made. rows_with_made c.args.number (made_of made)) (sym c.in-NoPool.is)

pub returns-in-NoPool-clause-done : goal.returns-in-NoPool-clause-done
returns-in-NoPool-clause-done g c clean =
    subst (λ w. OnOk c.commit_no_pool.result (Accepts c.args.accepted.now w (state g.S.Store c.args.tables.now.0).now.trees (state g.S.Store c.commit_no_pool.new.self.0).now.trees)) (no_pool_is g c) (c.commit_no_pool.ensures.done clean)

pub returns-in-NoPool-clause-crash : goal.returns-in-NoPool-clause-crash
returns-in-NoPool-clause-crash g c =
    subst (λ w. Survives (state g.S.Store c.args.tables.now.0) (state g.S.Store c.commit_no_pool.new.self.0) (Accepts c.args.accepted.now w (state g.S.Store c.args.tables.now.0).now.trees)) (no_pool_is g c) c.commit_no_pool.ensures.crash
