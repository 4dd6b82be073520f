use Rattle.std.proofs.Common.{◌≡◌, ◌≤◌, length, take, vec_capacity, is_some}
use Rattle.tenant_core.specs.States.{MeetsDefinition}
use Rattle.tenant_service.specs.History.{IsSilentFrom}
use Rattle.tenant_service.specs.Private.{LeavesSoFar}
use Rattle.tenant_service.proofs.service.Service.serve_session.Given as goal

-- the calls so far are a session, and there is room for all replies
abbrev pub invariant-loop-call : goal.invariant-loop-call
invariant-loop-call g l = record {
  honest : g.T.TenantStore.is_honest l.self → g.T.TenantStore.is_honest l.fn.self;
  meets : g.T.TenantStore.is_honest l.self → MeetsDefinition (g.T.TenantStore.latched l.self) (g.T.TenantStore.has_state l.fn.self) (g.T.TenantStore.has_state l.self) (take l.call-index l.calls) l.replies.items;
  leaves : g.T.TenantStore.is_honest l.self → LeavesSoFar (g.T.TenantStore.has_state l.fn.self) (g.T.TenantStore.may_leave l.self) (g.T.TenantStore.latched l.self) (take l.call-index l.calls) l.replies.items l.doubt;
  silent : IsSilentFrom l.doubt l.replies.items;
  latch : is_some l.doubt ≡ g.T.TenantStore.latched l.self;
  room : length l.calls ≤ vec_capacity l.replies;
  count : length l.replies.items ≡ l.call-index;
}
