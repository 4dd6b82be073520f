use Rattle.std.specs.Prelude.{OnOk}
use Rattle.std.proofs.Common.{◌≡◌, refl, subst, rules, arith, take_all}
use Rattle.std.proofs.lemmas.Result.{on_ok_weaker}
use Rattle.sqlite_trees.specs.Tree.{Trees}
use Rattle.sqlite.specs.Effect.{Database}
use Rattle.sqlite.specs.Held.{state}
use Rattle.sqlite.specs.State.{HasCleanDisk, Survives}
use Rattle.sqlite.proofs.StateLemmas.{survives_then}
use Rattle.tenant_tables.specs.Run.{Ran, begun, Makes}
use Rattle.table_schema.specs.Ready.{Commits}
use Rattle.tenant_tables.proofs.RunFacts.{inside_more}
use Rattle.tenant_tables.proofs.write.run_all.Goals as goal

pub loop-write-preserved : goal.loop-write-preserved
loop-write-preserved g c =
    let before = state g.S.Store c.args.conn.now in
    let mid = state g.S.Store c.loop-write.tx.conn.now in
    let new = state g.S.Store c.run.new.tx.conn.now in
    let run = c.in_ok-run.ensures in
    record {
      same_reference = search rules;
      survives = survives_then before mid new (λ _. ⊥) (λ _. ⊥) (λ _. ⊥) (λ _ _ none. none) (λ _ _ none. none) c.loop-write.invariant.survives run.survives;
      inside = λ clean.
          let it = c.loop-write.invariant.inside (omega (arith, run.survives.clean)) in
          inside_more g.S.Store c.args.writes.now c.loop-write.write-index _ c.args.conn.now c.loop-write.tx.conn.now c.run.new.tx.conn.now c.in_ok-run.field-0 (omega arith) it (run.runs clean it.mode);
    }

pub returns-clause-done : goal.returns-clause-done
returns-clause-done g c clean =
    let last = c.loop-write.tx.conn.now in
    let end = c.commit.new.self.0 in
    let same : end ≡ c.conn-2-1.given.0 = search rules in
    let late : HasCleanDisk (state g.S.Store end) = search rules in
    let it = c.loop-write.invariant.inside (omega (arith, c.commit.ensures.survives.clean)) in
    let ran = subst (λ ws. Ran g.S.Store ws (begun g.S.Store c.args.conn.now) last) (take_all c.loop-write.write-index c.args.writes.now (omega arith)) it.ran in
    subst (λ h. OnOk c.commit.result ((db : Database) × Makes g.S.Store c.args.writes.now c.args.conn.now db × Commits (state g.S.Store c.args.conn.now) (state g.S.Store h) db)) same
    (on_ok_weaker c.commit.result (λ done. ((state g.S.Store last).now, (last, ran, refl), record { was_open = it.was_open done.1.was_open; is_open = done.1.is_open; now = done.1.now_is; committed = done.1.committed_is })) (c.commit.ensures.ok late))

pub returns-clause-crash : goal.returns-clause-crash
returns-clause-crash g c =
    let last = c.loop-write.tx.conn.now in
    let end = c.commit.new.self.0 in
    let same : end ≡ c.conn-2-1.given.0 = search rules in
    let P = λ (trees : Trees). (db : Database) × Makes g.S.Store c.args.writes.now c.args.conn.now db × (trees ≡ db.trees) in
    subst (λ h. Survives (state g.S.Store c.args.conn.now) (state g.S.Store h) P) same
    (survives_then (state g.S.Store c.args.conn.now) (state g.S.Store last) (state g.S.Store end) (λ _. ⊥) _ P (λ _ db none. absurd none)
    (λ clean db is. let it = c.loop-write.invariant.inside (omega (arith, c.commit.ensures.survives.clean)) in
    ((state g.S.Store last).now, (last, subst (λ ws. Ran g.S.Store ws (begun g.S.Store c.args.conn.now) last) (take_all c.loop-write.write-index c.args.writes.now (omega arith)) it.ran, refl), is))
    c.loop-write.invariant.survives c.commit.ensures.survives)

pub returns-clause-alone : goal.returns-clause-alone
returns-clause-alone g c clean =
    let end = c.commit.new.self.0 in
    let same : end ≡ c.conn-2-1.given.0 = search rules in
    let late : HasCleanDisk (state g.S.Store end) = search rules in
    subst (λ h. OnOk c.commit.result ((db : Trees) → (state g.S.Store h).may_leave db → db ≡ (state g.S.Store h).committed.trees)) same
    (on_ok_weaker c.commit.result (λ done db may. g.met.S.Store.settled end.store db done.1.is_open may) (c.commit.ensures.ok late))
