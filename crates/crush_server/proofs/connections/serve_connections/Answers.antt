use Rattle.std.proofs.Common.{◌≡◌, ◌+◌, ◌<◌, ◌≤◌, ℕ, suc, false, sym, subst, ◌∙◌, arith, add-one}
use Rattle.tenant_core.specs.States.{MeetsDefinition}
use Rattle.tenant_service.specs.Served.{ServesSession}
use Rattle.crush_server.proofs.Each.{clients_map, clients_more, clients_none}
use Rattle.crush_server.proofs.Serving.{meets_after, meets_none, session_after, session_whole}
use Rattle.crush_server.specs.Clients.{ServesClients}
use Rattle.crush_server.proofs.connections.serve_connections.Goals as goal

pub loop-connection-init : goal.loop-connection-init
loop-connection-init g c =
    let store = g.T.TenantStore in
    let old = c.args.service.now in record {
      works = c.requires.works;
      listens = c.requires.listens;
      honest = λ is. is;
      served = clients_none (λ calls replies. store.is_honest old → MeetsDefinition false (store.has_state old) (store.has_state old) calls replies) (g.L.Listener.clients c.args.listener.now) (λ _. meets_none (store.has_state old));
    }

pub loop-connection-preserved : goal.loop-connection-preserved
loop-connection-preserved g c =
    let store = g.T.TenantStore in
    let old = c.args.service.now in
    let mid = c.loop-connection.service in
    let new = c.serve_client.new.service in
    let so_far = c.loop-connection.invariant in
    let works : store.latched new ≡ false = sym c.is_latched.ensures ∙ c.if-is_latched.false in record {
      works = works;
      listens = c.serve_client.ensures.listens;
      honest = λ is. so_far.honest (c.serve_client.ensures.honest is);
      served = subst (λ (n : ℕ). ServesClients (λ calls replies. store.is_honest new → MeetsDefinition false (store.has_state old) (store.has_state new) calls replies) n (g.L.Listener.clients c.args.listener.now) (g.L.Listener.clients c.serve_client.new.listener))
          (sym (add-one c.loop-connection._connection))
          (clients_more (λ calls replies. store.is_honest mid → MeetsDefinition false (store.has_state old) (store.has_state mid) calls replies)
          (λ calls replies. store.is_honest new → ServesSession false (store.latched new) (store.has_state mid) (store.has_state new) (store.may_leave new) calls replies)
          (λ calls replies. store.is_honest new → MeetsDefinition false (store.has_state old) (store.has_state new) calls replies) c.loop-connection._connection (g.L.Listener.clients c.args.listener.now)
          (g.L.Listener.clients c.loop-connection.listener) (g.L.Listener.clients c.serve_client.new.listener)
          (λ cs rs m ds qs p is. meets_after (store.latched new) (store.has_state old) (store.has_state mid) (store.has_state new) (store.may_leave new) cs rs ds qs works (m (c.serve_client.ensures.honest is)) (p is))
          so_far.served c.serve_client.ensures.served);
    }

pub returns-then-is_latched-clause-ends : goal.returns-then-is_latched-clause-ends
returns-then-is_latched-clause-ends g c =
    let store = g.T.TenantStore in
    let old = c.args.service.now in
    let mid = c.loop-connection.service in
    let new = c.serve_client.new.service in
    let so_far = c.loop-connection.invariant in
    record {
      count = suc c.loop-connection._connection;
      some = omega arith;
      few = omega (arith, c.loop-connection-test.true);
      serves = clients_more (λ calls replies. store.is_honest mid → MeetsDefinition false (store.has_state old) (store.has_state mid) calls replies)
          (λ calls replies. store.is_honest new → ServesSession false (store.latched new) (store.has_state mid) (store.has_state new) (store.may_leave new) calls replies)
          (λ calls replies. store.is_honest new → ServesSession false (store.latched new) (store.has_state old) (store.has_state new) (store.may_leave new) calls replies) c.loop-connection._connection (g.L.Listener.clients c.args.listener.now)
          (g.L.Listener.clients c.loop-connection.listener) (g.L.Listener.clients c.serve_client.new.listener)
          (λ cs rs m ds qs p is. session_after (store.latched new) (store.has_state old) (store.has_state mid) (store.has_state new) (store.may_leave new) cs rs ds qs (m (c.serve_client.ensures.honest is)) (p is))
          so_far.served c.serve_client.ensures.served;
    }

pub returns-clause-ends : goal.returns-clause-ends
returns-clause-ends g c =
    let store = g.T.TenantStore in
    let old = c.args.service.now in
    let new = c.loop-connection.service in
    let so_far = c.loop-connection.invariant in
    let works = so_far.works in
    subst (λ (n : ℕ). ServesClients (λ calls replies. store.is_honest new → ServesSession false (store.latched new) (store.has_state old) (store.has_state new) (store.may_leave new) calls replies) n (g.L.Listener.clients c.args.listener.now) (g.L.Listener.clients c.loop-connection.listener))
    (omega (arith, c.loop-connection-test.false, c.loop-connection.auto._connection-end))
    (clients_map (λ calls replies. store.is_honest new → MeetsDefinition false (store.has_state old) (store.has_state new) calls replies)
    (λ calls replies. store.is_honest new → ServesSession false (store.latched new) (store.has_state old) (store.has_state new) (store.may_leave new) calls replies) c.loop-connection._connection
    (g.L.Listener.clients c.args.listener.now) (g.L.Listener.clients c.loop-connection.listener)
    (λ cs rs m is. session_whole (store.latched new) (store.has_state old) (store.has_state new) (store.may_leave new) cs rs works
    (record { one = λ _ t s u. g.met.T.TenantStore.one_state new t s u is works; settled = λ _ t found there. g.met.T.TenantStore.settled new t found is works there }) (m is)) so_far.served)

pub returns-clause-latch : goal.returns-clause-latch
returns-clause-latch g c = c.loop-connection.invariant.works

pub returns-clause-honest : goal.returns-clause-honest
returns-clause-honest g c = c.loop-connection.invariant.honest

pub returns-then-is_latched-clause-honest : goal.returns-then-is_latched-clause-honest
returns-then-is_latched-clause-honest g c = λ is. c.loop-connection.invariant.honest (c.serve_client.ensures.honest is)

pub returns-then-is_latched-clause-last : goal.returns-then-is_latched-clause-last
returns-then-is_latched-clause-last g c = λ _.
    let store = g.T.TenantStore in
    let old = c.args.service.now in
    let mid = c.loop-connection.service in
    let new = c.serve_client.new.service in
    let so_far = c.loop-connection.invariant in (
      c.loop-connection._connection,
      c.loop-connection-test.true,
      record {
        mid = mid;
        works = so_far.works;
        between = g.L.Listener.clients c.loop-connection.listener;
        before = clients_map (λ calls replies. store.is_honest mid → MeetsDefinition false (store.has_state old) (store.has_state mid) calls replies)
            (λ calls replies. store.is_honest new → MeetsDefinition false (store.has_state old) (store.has_state mid) calls replies) c.loop-connection._connection
            (g.L.Listener.clients c.args.listener.now) (g.L.Listener.clients c.loop-connection.listener) (λ cs rs m is. m (c.serve_client.ensures.honest is)) so_far.served;
        last = c.serve_client.ensures.served;
      },
    )
