use Rattle.std.proofs.Common.{◌≡◌, ◌++◌, [], take, refl, ap, sym, ◌∙◌, subst}
use Rattle.std.proofs.lemmas.List.{append-nil}
use Rattle.std.specs.Io.KnownBytes.{Consumes}
use Rattle.tenant_core.specs.tenant_messages.specs.CallParts.{call_of}
use Rattle.tenant_service.specs.Writing.{AppendsPart, AppendsUpTo}
use Rattle.crush_http.specs.Wire.{reply_wire, rejection_wire}
use Rattle.crush_http.specs.Private.Reading.{Finds as FindsIncoming, ReadsOn, call_in}
use Rattle.crush_http.specs.Private.Served.{EndsCut, EndsHeld, Replies}
use Rattle.crush_http.specs.declared.connection.ConnectionEnd.TheVariants.{Bad, Closed, ReadFault}
use Rattle.crush_http.proofs.Connecting.{cut_before, ended_before, failed_before, rejected_before, Finds, finds_call, more_to_come, next_after, last_after, cut_after}
use Rattle.crush_http.proofs.Holding.{part_on, up_to_on}
use Rattle.crush_http.proofs.Joining.{one_reply}
use Rattle.crush_http.proofs.Streams.{consumes_none}
use Rattle.crush_http.proofs.connection.serve_one.Goals as goal

pub returns-in_default-clause-cut : goal.returns-in_default-clause-cut
returns-in_default-clause-cut g c =
    cut_before _ _ refl c.args.most c.args.buffers.now.read (g.R.Read.remaining c.args.reader.now) (g.R.Read.remaining c.next_message.new.reader)
    (EndsCut c.args.buffers.now.held (g.W.Write.contents c.args.writer.now) (g.W.Write.contents c.next_message.new.writer))
    (subst (λ r. Consumes (g.R.Read.remaining c.args.reader.now) (g.R.Read.remaining r) []) (sym (c.in_default.ensures.unread refl)) (consumes_none (g.R.Read.remaining c.args.reader.now)))
    (subst (AppendsPart (g.W.Write.contents c.args.writer.now) (g.W.Write.contents c.next_message.new.writer)) (sym (append-nil c.args.buffers.now.held)) (c.in_default.ensures.cut refl))

pub returns-then-not-put_rejection-clause-cut : goal.returns-then-not-put_rejection-clause-cut
returns-then-not-put_rejection-clause-cut g c =
    rejected_before _ _ refl c.args.most c.args.buffers.now.read (g.R.Read.remaining c.args.reader.now) (g.R.Read.remaining c.next_message.new.reader)
    (EndsCut c.args.buffers.now.held (g.W.Write.contents c.args.writer.now) (g.W.Write.contents c.put_rejection.new.writer)) c.in-Rejected.reason
    (subst (λ i. FindsIncoming i c.args.buffers.now.read c.next_message.new.buffers.read c.next_message.new.buffers.body.items (g.R.Read.remaining c.args.reader.now) (g.R.Read.remaining c.next_message.new.reader)) c.in-Rejected.is c.in-Some.ensures.found)
    (part_on (g.W.Write.contents c.args.writer.now) (g.W.Write.contents c.next_message.new.writer) (g.W.Write.contents c.put_rejection.new.writer) c.next_message.new.buffers.held c.args.buffers.now.held (rejection_wire c.in-Rejected.reason)
    c.in-Some.ensures.written c.if-not-put_rejection.ensures)

pub returns-in-Rejected-clause-ended : goal.returns-in-Rejected-clause-ended
returns-in-Rejected-clause-ended g c =
    rejected_before _ _ refl c.args.most c.args.buffers.now.read (g.R.Read.remaining c.args.reader.now) (g.R.Read.remaining c.next_message.new.reader)
    (EndsHeld Bad c.args.buffers.now.held c.put_rejection.new.held (g.W.Write.contents c.args.writer.now) (g.W.Write.contents c.put_rejection.new.writer)) c.in-Rejected.reason
    (subst (λ i. FindsIncoming i c.args.buffers.now.read c.next_message.new.buffers.read c.next_message.new.buffers.body.items (g.R.Read.remaining c.args.reader.now) (g.R.Read.remaining c.next_message.new.reader)) c.in-Rejected.is c.in-Some.ensures.found) (
      tt,
      up_to_on (g.W.Write.contents c.args.writer.now) (g.W.Write.contents c.next_message.new.writer) (g.W.Write.contents c.put_rejection.new.writer) c.next_message.new.buffers.held c.put_rejection.new.held c.args.buffers.now.held (rejection_wire c.in-Rejected.reason)
          c.in-Some.ensures.written c.if-not-put_rejection.ensures,
    )

pub returns-in-Ended-clause-ended : goal.returns-in-Ended-clause-ended
returns-in-Ended-clause-ended g c =
    let found = subst (λ i. FindsIncoming i c.args.buffers.now.read c.next_message.new.buffers.read c.next_message.new.buffers.body.items (g.R.Read.remaining c.args.reader.now) (g.R.Read.remaining c.next_message.new.reader)) c.in-Ended.is c.in-Some.ensures.found in
    ended_before _ _ refl c.args.most c.args.buffers.now.read (g.R.Read.remaining c.args.reader.now) (g.R.Read.remaining c.next_message.new.reader)
    (EndsHeld Closed c.args.buffers.now.held c.next_message.new.buffers.held (g.W.Write.contents c.args.writer.now) (g.W.Write.contents c.next_message.new.writer)) found.0 found.1
    (tt, subst (AppendsUpTo c.next_message.new.buffers.held (g.W.Write.contents c.args.writer.now) (g.W.Write.contents c.next_message.new.writer)) (sym (append-nil c.args.buffers.now.held)) c.in-Some.ensures.written)

pub returns-in-Fault-clause-ended : goal.returns-in-Fault-clause-ended
returns-in-Fault-clause-ended g c =
    failed_before _ _ refl c.args.most c.args.buffers.now.read (g.R.Read.remaining c.args.reader.now) (g.R.Read.remaining c.next_message.new.reader)
    (EndsHeld ReadFault c.args.buffers.now.held c.next_message.new.buffers.held (g.W.Write.contents c.args.writer.now) (g.W.Write.contents c.next_message.new.writer))
    (subst (λ i. FindsIncoming i c.args.buffers.now.read c.next_message.new.buffers.read c.next_message.new.buffers.body.items (g.R.Read.remaining c.args.reader.now) (g.R.Read.remaining c.next_message.new.reader)) c.in-Fault.is c.in-Some.ensures.found)
    (λ unread. (tt, subst (AppendsUpTo c.next_message.new.buffers.held (g.W.Write.contents c.args.writer.now) (g.W.Write.contents c.next_message.new.writer)) (sym (append-nil c.args.buffers.now.held)) c.in-Some.ensures.written))

pub returns-then-not-put_reply-clause-cut : goal.returns-then-not-put_reply-clause-cut
returns-then-not-put_reply-clause-cut g c =
    let store = g.T.TenantStore in
    let laws = g.met.T.TenantStore in
    let one = one_reply store.latched store.has_state store.may_leave store.is_honest laws.one_state laws.settled c.args.service.now c.request-reply.new.self (call_of c.call_of.result) c.request-reply.result
    c.request-reply.ensures.serves c.request-reply.ensures.silent c.request-reply.ensures.crash c.request-reply.ensures.rests c.request-reply.ensures.honest in
    let read : ReadsOn c.args.buffers.now.read (g.R.Read.remaining c.args.reader.now) (g.R.Read.remaining c.next_message.new.reader)
    (Finds c.args.most (call_of c.call_of.result) c.is_last-last.result c.drop_front.new.self) =
    finds_call c.args.most c.args.buffers.now.read c.bytes-bytes.result.now c.next_message.new.buffers.read c.in-Message.request c.next_message.new.buffers.body.items c.drop_front.new.self c.is_last-last.result c.used-used.result
    (call_of c.call_of.result) (g.R.Read.remaining c.args.reader.now) (g.R.Read.remaining c.next_message.new.reader)
    (subst (λ i. FindsIncoming i c.args.buffers.now.read c.next_message.new.buffers.read c.next_message.new.buffers.body.items (g.R.Read.remaining c.args.reader.now) (g.R.Read.remaining c.next_message.new.reader)) c.in-Message.is c.in-Some.ensures.found)
    c.bytes-bytes.ensures.value c.used-used.ensures c.drop_front.ensures c.is_last-last.ensures
    (c.call_of.ensures ∙ ap (λ body. call_in c.bytes-bytes.result.now c.in-Message.request (take c.in-Message.request.size body)) c.deref.ensures.value) in
    cut_after (c.request-reply.new.self ≡ c.args.service.now) (Replies (g.T.TenantStore.is_honest c.request-reply.new.self) (g.T.TenantStore.latched c.args.service.now) (g.T.TenantStore.latched c.request-reply.new.self)
    (g.T.TenantStore.has_state c.args.service.now) (g.T.TenantStore.has_state c.request-reply.new.self) (g.T.TenantStore.may_leave c.args.service.now) (g.T.TenantStore.may_leave c.request-reply.new.self)) c.args.most c.args.buffers.now.read c.drop_front.new.self (call_of c.call_of.result) c.request-reply.result
    (g.R.Read.remaining c.args.reader.now) (g.R.Read.remaining c.next_message.new.reader) one c.is_last-last.result
    (EndsCut c.args.buffers.now.held (g.W.Write.contents c.args.writer.now) (g.W.Write.contents c.put_reply.new.writer)) read
    (part_on (g.W.Write.contents c.args.writer.now) (g.W.Write.contents c.next_message.new.writer) (g.W.Write.contents c.put_reply.new.writer) c.next_message.new.buffers.held c.args.buffers.now.held (reply_wire c.is_last-last.result c.request-reply.result) c.in-Some.ensures.written c.if-not-put_reply.ensures)

pub returns-then-last-clause-ended : goal.returns-then-last-clause-ended
returns-then-last-clause-ended g c =
    let store = g.T.TenantStore in
    let laws = g.met.T.TenantStore in
    let one = one_reply store.latched store.has_state store.may_leave store.is_honest laws.one_state laws.settled c.args.service.now c.request-reply.new.self (call_of c.call_of.result) c.request-reply.result
    c.request-reply.ensures.serves c.request-reply.ensures.silent c.request-reply.ensures.crash c.request-reply.ensures.rests c.request-reply.ensures.honest in
    let read : ReadsOn c.args.buffers.now.read (g.R.Read.remaining c.args.reader.now) (g.R.Read.remaining c.next_message.new.reader)
    (Finds c.args.most (call_of c.call_of.result) c.is_last-last.result c.drop_front.new.self) =
    finds_call c.args.most c.args.buffers.now.read c.bytes-bytes.result.now c.next_message.new.buffers.read c.in-Message.request c.next_message.new.buffers.body.items c.drop_front.new.self c.is_last-last.result c.used-used.result
    (call_of c.call_of.result) (g.R.Read.remaining c.args.reader.now) (g.R.Read.remaining c.next_message.new.reader)
    (subst (λ i. FindsIncoming i c.args.buffers.now.read c.next_message.new.buffers.read c.next_message.new.buffers.body.items (g.R.Read.remaining c.args.reader.now) (g.R.Read.remaining c.next_message.new.reader)) c.in-Message.is c.in-Some.ensures.found)
    c.bytes-bytes.ensures.value c.used-used.ensures c.drop_front.ensures c.is_last-last.ensures
    (c.call_of.ensures ∙ ap (λ body. call_in c.bytes-bytes.result.now c.in-Message.request (take c.in-Message.request.size body)) c.deref.ensures.value) in
    last_after (c.request-reply.new.self ≡ c.args.service.now) (Replies (g.T.TenantStore.is_honest c.request-reply.new.self) (g.T.TenantStore.latched c.args.service.now) (g.T.TenantStore.latched c.request-reply.new.self)
    (g.T.TenantStore.has_state c.args.service.now) (g.T.TenantStore.has_state c.request-reply.new.self) (g.T.TenantStore.may_leave c.args.service.now) (g.T.TenantStore.may_leave c.request-reply.new.self)) c.args.most c.args.buffers.now.read c.drop_front.new.self (call_of c.call_of.result) c.request-reply.result
    (g.R.Read.remaining c.args.reader.now) (g.R.Read.remaining c.next_message.new.reader) one
    (EndsHeld Closed c.args.buffers.now.held c.put_reply.new.held (g.W.Write.contents c.args.writer.now) (g.W.Write.contents c.put_reply.new.writer))
    (subst (λ l. ReadsOn c.args.buffers.now.read (g.R.Read.remaining c.args.reader.now) (g.R.Read.remaining c.next_message.new.reader) (Finds c.args.most (call_of c.call_of.result) l c.drop_front.new.self)) c.if-last.true read) (
      tt,
      (subst (λ l. AppendsUpTo c.put_reply.new.held (g.W.Write.contents c.args.writer.now) (g.W.Write.contents c.put_reply.new.writer) (c.args.buffers.now.held ++ reply_wire l c.request-reply.result)) c.if-last.true
          (up_to_on (g.W.Write.contents c.args.writer.now) (g.W.Write.contents c.next_message.new.writer) (g.W.Write.contents c.put_reply.new.writer) c.next_message.new.buffers.held c.put_reply.new.held c.args.buffers.now.held (reply_wire c.is_last-last.result c.request-reply.result) c.in-Some.ensures.written c.if-not-put_reply.ensures)),
    )

pub returns-clause-next : goal.returns-clause-next
returns-clause-next g c =
    let store = g.T.TenantStore in
    let laws = g.met.T.TenantStore in
    let one = one_reply store.latched store.has_state store.may_leave store.is_honest laws.one_state laws.settled c.args.service.now c.request-reply.new.self (call_of c.call_of.result) c.request-reply.result
    c.request-reply.ensures.serves c.request-reply.ensures.silent c.request-reply.ensures.crash c.request-reply.ensures.rests c.request-reply.ensures.honest in
    let read : ReadsOn c.args.buffers.now.read (g.R.Read.remaining c.args.reader.now) (g.R.Read.remaining c.next_message.new.reader)
    (Finds c.args.most (call_of c.call_of.result) c.is_last-last.result c.drop_front.new.self) =
    finds_call c.args.most c.args.buffers.now.read c.bytes-bytes.result.now c.next_message.new.buffers.read c.in-Message.request c.next_message.new.buffers.body.items c.drop_front.new.self c.is_last-last.result c.used-used.result
    (call_of c.call_of.result) (g.R.Read.remaining c.args.reader.now) (g.R.Read.remaining c.next_message.new.reader)
    (subst (λ i. FindsIncoming i c.args.buffers.now.read c.next_message.new.buffers.read c.next_message.new.buffers.body.items (g.R.Read.remaining c.args.reader.now) (g.R.Read.remaining c.next_message.new.reader)) c.in-Message.is c.in-Some.ensures.found)
    c.bytes-bytes.ensures.value c.used-used.ensures c.drop_front.ensures c.is_last-last.ensures
    (c.call_of.ensures ∙ ap (λ body. call_in c.bytes-bytes.result.now c.in-Message.request (take c.in-Message.request.size body)) c.deref.ensures.value) in (
      more_to_come c.in-Message.request.closes c.is_last-last.result c.args.most c.requires.some c.is_last-last.ensures c.if-last.false,
      next_after (c.request-reply.new.self ≡ c.args.service.now) (Replies (g.T.TenantStore.is_honest c.request-reply.new.self) (g.T.TenantStore.latched c.args.service.now) (g.T.TenantStore.latched c.request-reply.new.self)
          (g.T.TenantStore.has_state c.args.service.now) (g.T.TenantStore.has_state c.request-reply.new.self) (g.T.TenantStore.may_leave c.args.service.now) (g.T.TenantStore.may_leave c.request-reply.new.self)) c.args.most c.args.buffers.now.read c.drop_front.new.self (call_of c.call_of.result) c.request-reply.result
          (g.R.Read.remaining c.args.reader.now) (g.R.Read.remaining c.next_message.new.reader) one c.args.buffers.now.held c.put_reply.new.held (g.W.Write.contents c.args.writer.now) (g.W.Write.contents c.put_reply.new.writer)
          (subst (λ l. ReadsOn c.args.buffers.now.read (g.R.Read.remaining c.args.reader.now) (g.R.Read.remaining c.next_message.new.reader) (Finds c.args.most (call_of c.call_of.result) l c.drop_front.new.self)) c.if-last.false read)
          (subst (λ l. AppendsUpTo c.put_reply.new.held (g.W.Write.contents c.args.writer.now) (g.W.Write.contents c.put_reply.new.writer) (c.args.buffers.now.held ++ reply_wire l c.request-reply.result)) c.if-last.false
          (up_to_on (g.W.Write.contents c.args.writer.now) (g.W.Write.contents c.next_message.new.writer) (g.W.Write.contents c.put_reply.new.writer) c.next_message.new.buffers.held c.put_reply.new.held c.args.buffers.now.held (reply_wire c.is_last-last.result c.request-reply.result) c.in-Some.ensures.written c.if-not-put_reply.ensures)),
    )
