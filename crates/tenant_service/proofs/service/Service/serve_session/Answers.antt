use Rattle.std.proofs.Common.{◌≡◌, ◌+◌, ℕ, List, [], ◌∷◌, ◌++◌, true, Bool, is_some, length, length-append, take, sym, ap, subst, ◌∙◌, arith}
use Rattle.std.proofs.lemmas.List.{take_more}
use Rattle.tenant_core.proofs.Running.{run_on}
use Rattle.tenant_core.specs.States.{LeavesStep, MeetsDefinition}
use Rattle.tenant_service.proofs.Served.{OneMore, latch_after, leaves_more, silent_after}
use Rattle.tenant_service.specs.Private.{LeavesSoFar, doubt_after}
use Rattle.tenant_core.specs.tenant_messages.specs.declared.call.Call.{Call}
use Rattle.tenant_service.proofs.service.Service.serve_session.Goals as goal

-- one more call was served, its reply added to the others, and the doubt set if it latched the
-- store
pub loop-call-preserved : goal.loop-call-preserved
loop-call-preserved g c =
    let so = c.loop-call.invariant in
    let old = c.args.self.now in
    let mid = c.loop-call.self in
    let new = c.request-reply.new.self in
    let states = g.T.TenantStore.has_state in
    let leave = g.T.TenantStore.may_leave in
    let latched = g.T.TenantStore.latched in
    let said = c.request-reply.ensures in
    let serves = rw c.parts.ensures at said.serves in
    let done = take c.loop-call.call-index c.args.calls.now in
    let replies = c.loop-call.replies.items in
    let doubt = c.loop-call.doubt in
    let reply = c.request-reply.result in
    let call = c.call-item.result in
    let calls_then : take (c.loop-call.call-index + 1) c.args.calls.now ≡ done ++ call ∷ [] =
    take_more c.args.calls.now c.loop-call.call-index call c.loop-call-test.true ∙ ap (λ (x : Call). done ++ x ∷ []) (sym c.call-item.is) in
    let replies_then : c.push.new.self.items ≡ replies ++ reply ∷ [] = rw c.if-is_err.ensures.negation at c.push.ensures.items in
    let doubt_then : c.doubt_after-doubt.result ≡ doubt_after doubt (latched new) (length replies) =
    c.doubt_after-doubt.ensures ∙ ap (λ (b : Bool). doubt_after doubt b c.len.result) c.is_latched.ensures ∙ ap (λ (n : ℕ). doubt_after doubt (latched new) n) (c.len.ensures ∙ c.loop-call.replies.ok.0) in
    let stays : is_some doubt ≡ true → latched new ≡ true = λ h. ap latched (said.rests (sym so.latch ∙ h)) ∙ (sym so.latch ∙ h) in
    let meets : (h : g.T.TenantStore.is_honest new) → MeetsDefinition (latched new) (states old) (states new) (done ++ call ∷ []) (replies ++ reply ∷ []) =
    λ h. run_on (latched mid) (latched new) (states old) (states mid) (states new) done replies call reply (so.meets (said.honest h)) (serves h) said.silent
    (λ was. ap latched (said.rests was) ∙ was) in
    record {
      honest = λ h. so.honest (said.honest h);
      meets = λ h. rw (calls_then, replies_then) (meets h);
      leaves = λ h.
          let more : OneMore (is_some doubt) (latched new) (states mid) (leave mid) (leave new) call reply = record {
            crash = λ was shut. subst (λ (x : Call). LeavesStep x (states mid) (leave new)) c.parts.ensures (said.crash h (sym so.latch ∙ was) shut);
            rests = λ shut t found there. subst (λ x. leave x t found) (said.rests (sym so.latch ∙ shut)) there;
            one = λ was t s u. g.met.T.TenantStore.one_state mid t s u (said.honest h) (sym so.latch ∙ was);
          } in
          let met = subst (λ b. MeetsDefinition b (states old) (states mid) done replies) (sym so.latch) (so.meets (said.honest h)) in
          let before = subst (λ b. LeavesSoFar (states old) (leave mid) b done replies doubt) (sym so.latch) (so.leaves (said.honest h)) in
          rw (calls_then, replies_then, doubt_then)
          (leaves_more (states old) (states mid) (leave mid) (leave new) done replies call reply doubt (latched new) so.silent stays said.silent more met before);
      silent = rw (replies_then, doubt_then) (silent_after replies reply doubt (latched new) so.silent stays said.silent);
      latch = rw doubt_then (latch_after doubt (latched new) (length replies) stays);
      room = omega (arith, c.push.ensures.capacity, so.room);
      count = rw replies_then (omega (arith, length-append replies (reply ∷ []), so.count));
    }
