use Rattle.std.proofs.Common.{◌≡◌, ◌<◌, true}
use Rattle.crush_http.proofs.Connecting.{Reached}
use Rattle.crush_http.proofs.Joining.{Runs}
use Rattle.crush_http.proofs.connection.serve_all.Given as goal

-- the messages so far were served, and there is room for one more
abbrev pub invariant-loop-most : goal.invariant-loop-most
invariant-loop-most g l = record {
  some : 0 < l.most;
  honest : g.T.TenantStore.is_honest l.service → g.T.TenantStore.is_honest l.fn.service;
  rests : g.T.TenantStore.latched l.fn.service ≡ true → l.service ≡ l.fn.service;
  reached : Reached (Runs g.T.TenantStore.latched g.T.TenantStore.has_state g.T.TenantStore.may_leave g.T.TenantStore.is_honest l.fn.service l.service) l.most l.buffers.read l.buffers.held
      (g.R.Read.remaining l.fn.reader) (g.R.Read.remaining l.reader) (g.W.Write.contents l.fn.writer) (g.W.Write.contents l.writer);
}

abbrev pub decreases-loop-most : goal.decreases-loop-most
decreases-loop-most g l = l.most
