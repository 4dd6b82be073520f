use Rattle.std.proofs.Common.{◌≡◌, sym, subst, ap, ◌∙◌, arith}
use Rattle.sqlite_trees.specs.Tree.{Trees}
use Rattle.sqlite_trees.specs.View.{IsClean}
use Rattle.sqlite.specs.Effect.{Database}
use Rattle.sqlite.specs.Held.{state}
use Rattle.table_schema.specs.Layout.{store_schema}
use Rattle.tenant_tables.specs.Opened.{AreTablesAt}
use Rattle.tenant_tables.proofs.Opening.{open_store, named_tables}
use Rattle.tenant_tables.proofs.reopen.reopen.Goals as goal

pub returns-then-is_laid_out-clause-ready : goal.returns-then-is_laid_out-clause-ready
returns-then-is_laid_out-clause-ready g c clean =
    let store = c.into_store-store.result in
    let early : IsClean (g.S.Store.view store) = omega (arith, clean, c.in-Ok.ensures.clean) in
    let both = c.in-Ok.ensures.opens clean in
    let has : (state g.S.Store c.in-Ok.conn).now.schema ≡ store_schema c.in-Some.layout = sym c.schema-in-Ok.ensures.value ∙ c.is_laid_out.ensures.0 c.if-is_laid_out.true in
    let sound = (both.1 both.0.is_open).0 in
    record {
      is_open = both.0.is_open;
      schema = (c.in-Some.layout, has);
      tables = named_tables c.in-Some.layout (state g.S.Store c.in-Ok.conn).now sound has (subst (AreTablesAt c.in-Some.layout) (sym (c.in-Ok.ensures.trees clean)) (c.are_rows.ensures.tables c.if-not-are_rows.false early));
      sound = sound;
      settled = both.0.clean;
      unlimited = c.in-Ok.ensures.fresh.unlimited;
    }

pub returns-then-is_laid_out-clause-same : goal.returns-then-is_laid_out-clause-same
returns-then-is_laid_out-clause-same g c clean =
    let store = c.into_store-store.result in
    let early : IsClean (g.S.Store.view store) = omega (arith, clean, c.in-Ok.ensures.clean) in
    let is_open = open_store g.S.Store g.met.S.Store.broken_if_shut store (c.are_rows.ensures.sound c.if-not-are_rows.false early) in
    c.in-Ok.ensures.trees clean ∙ (c.into_store-store.ensures.undone.undone is_open).0

pub returns-else-is_laid_out-clause-crash : goal.returns-else-is_laid_out-clause-crash
returns-else-is_laid_out-clause-crash g c clean db left =
    let store = c.into_store-store.result in
    let late : IsClean (g.S.Store.view c.in-Ok.conn.store) = omega (arith, clean, c.into_store-else-is_laid_out.ensures.quiet.clean) in
    let early : IsClean (g.S.Store.view store) = omega (arith, late, c.in-Ok.ensures.clean) in
    let both = c.in-Ok.ensures.opens late in
    let is_open = open_store g.S.Store g.met.S.Store.broken_if_shut store (c.are_rows.ensures.sound c.if-not-are_rows.false early) in
    let was_open = (c.into_store-store.ensures.undone.kept early).was_open is_open in
    let same : db ≡ (g.S.Store.view c.args.conn.store).committed =
    g.met.S.Store.settled c.in-Ok.conn.store db both.0.is_open (c.into_store-else-is_laid_out.ensures.quiet.outcomes db left) ∙ ap (λ (d : Database). d.trees) (sym both.0.clean) ∙ c.in-Ok.ensures.trees late ∙ (c.into_store-store.ensures.undone.undone is_open).0 in
    subst (λ (d : Trees). g.S.Store.recovers c.args.conn.store d) (sym same) (g.met.S.Store.stays c.args.conn.store was_open)

pub returns-then-is_laid_out-clause-left : goal.returns-then-is_laid_out-clause-left
returns-then-is_laid_out-clause-left g c clean =
    let store = c.into_store-store.result in
    let early : IsClean (g.S.Store.view store) = omega (arith, clean, c.in-Ok.ensures.clean) in
    let is_open = open_store g.S.Store g.met.S.Store.broken_if_shut store (c.are_rows.ensures.sound c.if-not-are_rows.false early) in
    let was_open = (c.into_store-store.ensures.undone.kept early).was_open is_open in
    subst (λ (d : Trees). g.S.Store.recovers c.args.conn.store d) (sym (c.in-Ok.ensures.trees clean ∙ (c.into_store-store.ensures.undone.undone is_open).0)) (g.met.S.Store.stays c.args.conn.store was_open)

pub over-requires : goal.over-requires
over-requires g c clean =
    let sound = c.are_rows.ensures.sound c.if-not-are_rows.false clean in
    let undone = c.into_store-store.ensures.undone in
    let is_open = open_store g.S.Store g.met.S.Store.broken_if_shut c.into_store-store.result sound in
    record {
      sound = sound;
      numbered = c.into_store-store.ensures.numbered clean;
      clean = (undone.undone is_open).0 ∙ sym ((undone.kept clean).committed is_open);
      unmarked = (undone.kept clean).marks is_open;
    }
