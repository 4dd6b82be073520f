use Rattle.std.proofs.Common.{◌≡◌, false, length}
use Rattle.crush_app.proofs.Playing.{PlaysRest}
use Rattle.crush_app.proofs.play.play.Given as goal

-- the lines before the rest were played, and the store isn't latched
abbrev pub invariant-loop-rest : goal.invariant-loop-rest
invariant-loop-rest g l = record {
  honest : g.T.TenantStore.is_honest l.service → g.T.TenantStore.is_honest l.fn.service;
  works : g.T.TenantStore.latched l.service ≡ false;
  played : g.T.TenantStore.is_honest l.service → PlaysRest (g.T.TenantStore.has_state l.fn.service) (g.T.TenantStore.has_state l.service) (g.W.Write.contents l.fn.writer) (g.W.Write.contents l.writer) l.input l.rest;
}

abbrev pub decreases-loop-rest : goal.decreases-loop-rest
decreases-loop-rest g l = length l.rest
