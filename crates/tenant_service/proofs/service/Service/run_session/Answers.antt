use Rattle.tenant_service.proofs.Served.{leaves_session, sound}
use Rattle.tenant_service.proofs.service.Service.run_session.Goals as goal

pub returns-clause-sound : goal.returns-clause-sound
returns-clause-sound g c = λ honest.
    let new = c.serve_session-doubt.new.self in
    sound (g.T.TenantStore.latched new) (g.T.TenantStore.has_state c.args.self.now) (g.T.TenantStore.has_state new) c.args.calls.now c.serve_session-doubt.new.replies.items
    c.serve_session-doubt.result (c.serve_session-doubt.ensures.meets honest) c.serve_session-doubt.ensures.silent

pub returns-clause-crash : goal.returns-clause-crash
returns-clause-crash g c = λ honest.
    let new = c.serve_session-doubt.new.self in
    leaves_session (g.T.TenantStore.has_state c.args.self.now) (g.T.TenantStore.has_state new) (g.T.TenantStore.may_leave new) c.args.calls.now c.serve_session-doubt.new.replies.items
    c.serve_session-doubt.result (g.T.TenantStore.latched new) (c.serve_session-doubt.ensures.meets honest) (λ still t s u. g.met.T.TenantStore.one_state new t s u honest still)
    (c.serve_session-doubt.ensures.leaves honest) (λ still t found there. g.met.T.TenantStore.settled new t found honest still there)
