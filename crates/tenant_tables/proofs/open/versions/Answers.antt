use Rattle.std.proofs.Common.{arith}
use Rattle.sqlite.specs.Held.{state}
use Rattle.sqlite.specs.State.{HasCleanDisk, IsUnchanged}
use Rattle.std.proofs.lemmas.Result.{IfOk-weaker, IfErr-weaker}
use Rattle.table_schema.specs.Ready.{Rests}
use Rattle.tenant_tables.proofs.Versions.{versions_text, asks_versions, finds_versions}
use Rattle.table_schema.proofs.QueryFacts.{shown_unchanged, commits_nothing, fails_rests}
use Rattle.tenant_tables.proofs.open.versions.Goals as goal

pub returns-clause-found : goal.returns-clause-found
returns-clause-found g c clean =
    let old = state g.S.Store c.args.conn.now in
    let early : HasCleanDisk old = omega (arith, clean, c.query_all.ensures.survives.clean) in
    IfOk-weaker c.query_all.result _ _ (λ rows. finds_versions old (state g.S.Store c.query_all.new.self) rows.items (c.requires.sound early) c.requires.known) (c.query_all.ensures.ok clean)

pub returns-clause-same : goal.returns-clause-same
returns-clause-same g c clean =
    let old = state g.S.Store c.args.conn.now in
    let new = state g.S.Store c.query_all.new.self in
    IfOk-weaker c.query_all.result _ (λ _. IsUnchanged old new) (λ rows. shown_unchanged versions_text _ old new rows.items (asks_versions old.now.schema c.requires.known).plain) (c.query_all.ensures.ok clean)

pub returns-clause-kept : goal.returns-clause-kept
returns-clause-kept g c clean =
    let old = state g.S.Store c.args.conn.now in
    let new = state g.S.Store c.query_all.new.self in
    IfErr-weaker c.query_all.result _ (λ _. Rests old new) (λ e. fails_rests versions_text _ old new e (asks_versions old.now.schema c.requires.known).plain) (c.query_all.ensures.err clean)

pub returns-clause-survives : goal.returns-clause-survives
returns-clause-survives g c =
    let old = state g.S.Store c.args.conn.now in
    commits_nothing versions_text _ old _ (λ clean. (asks_versions old.now.schema c.requires.known).plain) c.query_all.ensures.survives
