use Rattle.std.proofs.Common.{◌≡◌, ◌≤◌, length, take, vec_capacity}
use Rattle.tenant_core.specs.States.{MeetsDefinition}
use Rattle.tenant_service.proofs.service.Service.serve_all.Given as goal

-- the calls so far were served, and there is room for all replies
abbrev pub invariant-loop-call : goal.invariant-loop-call
invariant-loop-call g l = record {
  honest : g.T.TenantStore.is_honest l.self → g.T.TenantStore.is_honest l.fn.self;
  meets : g.T.TenantStore.is_honest l.self → MeetsDefinition (g.T.TenantStore.latched l.self) (g.T.TenantStore.has_state l.fn.self) (g.T.TenantStore.has_state l.self) (take l.call-index l.calls) l.replies.items;
  room : length l.calls ≤ vec_capacity l.replies;
  count : length l.replies.items ≡ l.call-index;
}
