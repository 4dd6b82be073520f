use Rattle.tenant_tables.proofs.tables.TenantTables.write.Goals as goal

pub write_all-requires-clause-sound : goal.write_all-requires-clause-sound
write_all-requires-clause-sound g c clean db made =
    let works = rw (← c.self.view_is) at c.requires.live in
    (rw (← c.self.view_is) at c.requires.sound) clean (c.self.invariant.1 works clean) db made

pub returns-clause-done : goal.returns-clause-done
returns-clause-done g c clean = rw (c.latched.ensures.same, ← c.self.view_is) (c.write_all.ensures.done clean)

pub returns-clause-crash : goal.returns-clause-crash
returns-clause-crash g c = rw (← c.self.view_is) c.write_all.ensures.crash
