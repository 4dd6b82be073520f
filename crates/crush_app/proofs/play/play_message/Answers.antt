use Rattle.std.proofs.Common.{refl, sym, ◌∙◌}
use Rattle.std.proofs.lemmas.Bool.{false≢true}
use Rattle.tenant_core.specs.tenant_messages.specs.CallParts.{call_of}
use Rattle.crush_app.proofs.Playing.{plays_bad, plays_call, cut_bad, cut_call}
use Rattle.tenant_service.proofs.OneSession.{no_session, one_session}
use Rattle.crush_app.proofs.Stopping.{bad_stopped, call_stopped, line_written}
use Rattle.crush_app.specs.Script.{bad_line, wire}
use Rattle.crush_app.proofs.play.play_message.Goals as goal

pub returns-in-Some-clause-whole : goal.returns-in-Some-clause-whole
returns-in-Some-clause-whole g c = λ honest yes.
    rw c.in-Some.is (plays_call (g.T.TenantStore.latched c.request-reply.new.self) (g.T.TenantStore.has_state c.args.service.now) (g.T.TenantStore.has_state c.request-reply.new.self) (call_of c.in-Some.call) c.request-reply.result
    (g.W.Write.contents c.args.writer.now) (g.W.Write.contents c.write_line.new.writer) (c.request-reply.ensures.serves honest) c.request-reply.ensures.silent (c.write_line.ensures.whole yes))

pub returns-in-Some-clause-cut : goal.returns-in-Some-clause-cut
returns-in-Some-clause-cut g c = λ honest no.
    rw c.in-Some.is (cut_call (g.T.TenantStore.latched c.request-reply.new.self) (g.T.TenantStore.has_state c.args.service.now) (g.T.TenantStore.has_state c.request-reply.new.self) (call_of c.in-Some.call) c.request-reply.result
    (g.W.Write.contents c.args.writer.now) (g.W.Write.contents c.write_line.new.writer) (c.request-reply.ensures.serves honest) c.request-reply.ensures.silent (c.write_line.ensures.part no))

pub returns-in-None-clause-whole : goal.returns-in-None-clause-whole
returns-in-None-clause-whole g c = λ honest yes.
    rw (c.in-None.is, c.requires.works) (plays_bad (g.T.TenantStore.has_state c.args.service.now) (g.W.Write.contents c.args.writer.now) (g.W.Write.contents c.write_line-in-None.new.writer)
    (rw c.requires.bad at (c.write_line-in-None.ensures.whole yes)))

pub returns-in-None-clause-cut : goal.returns-in-None-clause-cut
returns-in-None-clause-cut g c = λ honest no.
    rw (c.in-None.is, c.requires.works) (cut_bad (g.T.TenantStore.has_state c.args.service.now) (g.W.Write.contents c.args.writer.now) (g.W.Write.contents c.write_line-in-None.new.writer)
    (rw c.requires.bad at (c.write_line-in-None.ensures.part no)))

pub returns-in-Some-clause-stop : goal.returns-in-Some-clause-stop
returns-in-Some-clause-stop g c = λ honest.
    let store = g.met.T.TenantStore in
    let old = c.args.service.now in
    let new = c.request-reply.new.self in
    let was = c.request-reply.ensures.honest honest in
    let works = c.requires.works in
    let reply = c.request-reply.result in
    rw c.in-Some.is
    (call_stopped (g.T.TenantStore.has_state old) (g.T.TenantStore.may_leave new) (call_of c.in-Some.call) reply (g.W.Write.contents c.args.writer.now) (g.W.Write.contents c.write_line.new.writer)
    (one_session (g.T.TenantStore.latched new) (g.T.TenantStore.has_state old) (g.T.TenantStore.has_state new) (g.T.TenantStore.may_leave old) (g.T.TenantStore.may_leave new) (call_of c.in-Some.call) reply
    (record { one = λ _ t s u. store.one_state old t s u was works; settled = λ _ t found there. store.settled old t found was works there })
    (record { one = λ still t s u. store.one_state new t s u honest still; settled = λ still t found there. store.settled new t found honest still there })
    (c.request-reply.ensures.serves honest) c.request-reply.ensures.silent (c.request-reply.ensures.crash honest works))
    (line_written c.write_line.result (g.W.Write.contents c.args.writer.now) (g.W.Write.contents c.write_line.new.writer) (wire reply) c.write_line.ensures.whole c.write_line.ensures.part))

pub returns-in-None-clause-stop : goal.returns-in-None-clause-stop
returns-in-None-clause-stop g c = λ honest.
    let store = g.met.T.TenantStore in
    let old = c.args.service.now in
    let works = c.requires.works in
    rw c.in-None.is
    (bad_stopped (g.T.TenantStore.has_state old) (g.T.TenantStore.may_leave old) (g.W.Write.contents c.args.writer.now) (g.W.Write.contents c.write_line-in-None.new.writer)
    (no_session (g.T.TenantStore.has_state old) (g.T.TenantStore.may_leave old)
    (record { one = λ _ t s u. store.one_state old t s u honest works; settled = λ _ t found there. store.settled old t found honest works there }))
    (line_written c.write_line-in-None.result (g.W.Write.contents c.args.writer.now) (g.W.Write.contents c.write_line-in-None.new.writer) (wire bad_line)
    (λ yes. rw c.requires.bad at (c.write_line-in-None.ensures.whole yes)) (λ no. rw c.requires.bad at (c.write_line-in-None.ensures.part no))))

pub returns-in-Some-clause-latch : goal.returns-in-Some-clause-latch
returns-in-Some-clause-latch g c = λ honest shut yes.
    let works = c.requires.works in
    rw c.in-Some.is (record {
      call = call_of c.in-Some.call;
      one = refl;
      reply = c.request-reply.result;
      silent = c.request-reply.ensures.silent shut;
      leaves = c.request-reply.ensures.crash honest works shut;
      written = c.write_line.ensures.whole yes;
    })

pub returns-in-None-clause-latch : goal.returns-in-None-clause-latch
returns-in-None-clause-latch g c = λ honest shut yes. absurd (false≢true (sym c.requires.works ∙ shut))
