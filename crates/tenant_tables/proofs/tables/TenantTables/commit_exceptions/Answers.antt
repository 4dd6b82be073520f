use Rattle.std.proofs.Common.{List, subst, ◌∙◌, arith}
use Rattle.sqlite.specs.Held.{state}
use Rattle.sqlite.specs.State.{HasCleanDisk}
use Rattle.tenant_tables.specs.Run.{Makes}
use Rattle.tenant_tables.specs.Change.{Accepts, with_exceptions}
use Rattle.tenant_tables.specs.declared.write.Write.{Write}
use Rattle.tenant_tables.proofs.Changed.{done_of, crash_of}
use Rattle.tenant_tables.proofs.RunFacts.{accepts_exceptions}
use Rattle.tenant_tables.proofs.tables.TenantTables.commit_exceptions.Goals as goal

pub write-requires-clause-sound : goal.write-requires-clause-sound
write-requires-clause-sound g c clean ready db made =
    let a = c.args.accepted.now in
    let old = c.args.self.now.0 in
    let writes = c.deref.ensures.value ∙ c.in_ok-writes.ensures in
    (accepts_exceptions g.S.Store old ready a c.args.pool.now c.args.exceptions.now db (subst (λ (ws : List Write). Makes g.S.Store ws old db) writes made)).1 (c.requires.there clean)

pub returns-clause-done : goal.returns-clause-done
returns-clause-done g c clean =
    let a = c.args.accepted.now in
    let old = c.args.self.now.0 in
    let writes = c.deref.ensures.value ∙ c.in_ok-writes.ensures in
    let early : HasCleanDisk (state g.S.Store old) = omega (arith, clean, c.write.ensures.crash.clean) in
    done_of g.S.Store old c.write.new.self.0 _ (Accepts a (with_exceptions c.args.pool.now c.args.exceptions.now) (state g.S.Store old).now.trees) c.write.result (c.write.ensures.done clean)
    (λ db made. (accepts_exceptions g.S.Store old (c.write.ensures.ready early) a c.args.pool.now c.args.exceptions.now db (subst (λ (ws : List Write). Makes g.S.Store ws old db) writes made)).0)

pub returns-clause-crash : goal.returns-clause-crash
returns-clause-crash g c =
    let a = c.args.accepted.now in
    let old = c.args.self.now.0 in
    let writes = c.deref.ensures.value ∙ c.in_ok-writes.ensures in
    crash_of g.S.Store old c.write.new.self.0 _ (Accepts a (with_exceptions c.args.pool.now c.args.exceptions.now) (state g.S.Store old).now.trees) c.write.ensures.crash
    (λ early db made. (accepts_exceptions g.S.Store old (c.write.ensures.ready early) a c.args.pool.now c.args.exceptions.now db (subst (λ (ws : List Write). Makes g.S.Store ws old db) writes made)).0)
