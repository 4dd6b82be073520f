use Rattle.std.proofs.Common.{ℕ, List, Some, ◌∙◌, subst, sym, rules}
use Rattle.std.proofs.lemmas.Result.{on_ok_weaker}
use mir.Val.{SFits}
use mir.Syntax.{w64}
use Rattle.sqlite.proofs.StateLemmas.{survives_weaker}
use Rattle.sqlite.specs.Held.{state}
use Rattle.sqlite_trees.specs.Tree.{Trees}
use Rattle.tenant_state.specs.Made.{made_of}
use Rattle.tenant_state.specs.State.{Change, TenantState, after, epoch}
use Rattle.tenant_state.specs.Valid.{IsChange}
use Rattle.tenant_tables.specs.Change.{Accepts}
use Rattle.tenant_tables.specs.declared.commit.CommitHead.{CommitHead}
use Rattle.tenant_tables.specs.Changes.{IsChangeable, Turns}
use Rattle.tenant_tables.specs.Commits.{HasPoolsFor, rows_with_made}
use Rattle.tenant_tables.proofs.Accepted.{made_is, number_of, pools_of, receipt_is, word, word_is}
use Rattle.tenant_tables.proofs.Writes.{epoch_is, is_number, pools_for, turned}
use Rattle.tenant_tables.proofs.change.write_change.Given as given
use Rattle.tenant_tables.proofs.change.write_change.Goals as goal

pub write_made-requires-clause-there : goal.write_made-requires-clause-there
write_made-requires-clause-there g c clean =
    let fits : SFits w64 c.args.tenant.now.id = search rules in
    let may = c.requires.there clean in
    number_of (state g.S.Store c.args.tables.now.0).now.trees c.args.tenant.now.id fits (is_number _ may.0 may.1 c.args.tenant.now c.args.versions c.args.change.now may.2)

pub write_made-requires-clause-suits : goal.write_made-requires-clause-suits
write_made-requires-clause-suits g c clean =
    let fits : SFits w64 c.args.tenant.now.id = search rules in
    let may = c.requires.there clean in
    let has = pools_for (state g.S.Store c.args.tables.now.0).now.trees may.0 may.1 c.args.tenant.now c.args.versions c.args.change.now may.2 in
    pools_of (state g.S.Store c.args.tables.now.0).now.trees c.args.tenant.now.id (made_of c.change.inside.made) fits
    (subst (λ (x : Change). HasPoolsFor (state g.S.Store c.args.tables.now.0).now.trees c.args.tenant.now.id x.made) (sym c.change.view_is) has)

-- what each change writes here
abbrev written : (g : given.Over) → goal.After-write_made g → CommitHead
written g c = record { id = word c.args.tenant.now.id; epoch = word c.in-Some.epoch; receipt = c.receipt_values-receipt.result }

-- what is written stands for the state after the change
turn : (g : given.Over) (c : goal.After-write_made g) (name : List ℕ) (s : TenantState) (db : Trees)
    → IsChangeable (state g.S.Store c.args.tables.now.0).now.trees name s c.args.tenant.now c.args.versions c.args.change.now
    → Accepts (written g c) (rows_with_made (word c.in-Some-version_after.number) (made_of c.change.inside.made)) (state g.S.Store c.args.tables.now.0).now.trees db
    → Turns name (Some (after c.args.change.now s)) (state g.S.Store c.args.tables.now.0).now.trees db
turn g c name s db may accepts =
    let old = (state g.S.Store c.args.tables.now.0).now.trees in
    let change = c.args.change.now in
    let fits-id : SFits w64 c.args.tenant.now.id = search rules in
    let fits-epoch : SFits w64 c.in-Some.epoch = search rules in
    let fits-number : SFits w64 c.in-Some-version_after.number = search rules in
    let made = made_is c.in-Some-version_after.number _ _ fits-number c.change.view_is in
    turned old name s c.args.tenant.now c.args.versions change may db (written g c) c.in-Some-version_after.number (subst IsChange c.change.view_is c.change.invariant) (word_is c.args.tenant.now.id fits-id)
    (word_is c.in-Some.epoch fits-epoch ∙ c.in-Some.ensures.some (epoch s) (epoch_is old name s c.args.tenant.now c.args.versions change may))
    (receipt_is c.receipt_values-receipt.result _ _ _ c.receipt_values-receipt.ensures c.as_ref.ensures c.change.view_is)
    c.in-Some-version_after.ensures.some (subst (λ w. Accepts (written g c) w old db) made accepts)

pub returns-clause-done : goal.returns-clause-done
returns-clause-done g c clean name s may =
    on_ok_weaker c.write_made.result (turn g c name s (state g.S.Store c.write_made.new.tables.0).now.trees may) (c.write_made.ensures.done clean)

pub returns-clause-crash : goal.returns-clause-crash
returns-clause-crash g c = survives_weaker _ _ _ _ (λ _ db written name s may. turn g c name s db may written) c.write_made.ensures.crash
