use Rattle.std.proofs.Common.{◌≡◌, ◌+◌, [], ◌∷◌, ◌++◌, take, length-append, sym, ap, ◌∙◌, arith}
use Rattle.std.proofs.lemmas.List.{take_more}
use Rattle.tenant_core.specs.tenant_messages.specs.declared.call.Call.{Call}
use Rattle.tenant_core.proofs.Running.{run_on}
use Rattle.tenant_service.proofs.service.Service.serve_all.Goals as goal

-- one more call was served, and its reply added to the others
pub loop-call-preserved : goal.loop-call-preserved
loop-call-preserved g c =
    let so_far = c.loop-call.invariant in
    let done = take c.loop-call.call-index c.args.calls.now in
    let replies = c.loop-call.replies.items in
    let serves = rw c.parts.ensures at c.request-reply.ensures.serves in
    let calls_then : take (c.loop-call.call-index + 1) c.args.calls.now ≡ done ++ c.call-item.result ∷ [] =
    take_more c.args.calls.now c.loop-call.call-index c.call-item.result c.loop-call-test.true ∙ ap (λ (call : Call). done ++ call ∷ []) (sym c.call-item.is) in
    let replies_then : c.push.new.self.items ≡ replies ++ c.request-reply.result ∷ [] = rw c.if-is_err.ensures.negation at c.push.ensures.items in
    record {
      honest = λ h. so_far.honest (c.request-reply.ensures.honest h);
      meets = λ h. rw (calls_then, replies_then)
          (run_on (g.T.TenantStore.latched c.loop-call.self) (g.T.TenantStore.latched c.request-reply.new.self)
          (g.T.TenantStore.has_state c.args.self.now) (g.T.TenantStore.has_state c.loop-call.self) (g.T.TenantStore.has_state c.request-reply.new.self)
          done replies c.call-item.result c.request-reply.result (so_far.meets (c.request-reply.ensures.honest h)) (serves h) c.request-reply.ensures.silent
          (λ was. ap g.T.TenantStore.latched (c.request-reply.ensures.rests was) ∙ was));
      room = omega (arith, c.push.ensures.capacity, so_far.room);
      count = rw replies_then (omega (arith, length-append replies (c.request-reply.result ∷ []), so_far.count));
    }
