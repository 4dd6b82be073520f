use Rattle.std.proofs.Common.{arith, ap, refl, ◌∙◌}
use Rattle.crush_http.specs.Private.Served.{EndsCut, EndsHeld}
use Rattle.crush_http.proofs.Connecting.{reached_none, reached_one, reached_end, finished, cut}
use Rattle.crush_http.proofs.Joining.{Runs, join_none, join_one, join_last}
use Rattle.crush_http.proofs.connection.serve_all.Goals as goal

pub loop-most-init : goal.loop-most-init
loop-most-init g c = record {
  some = omega arith;
  honest = λ is. is;
  rests = λ _. refl;
  reached =
      reached_none (Runs g.T.TenantStore.latched g.T.TenantStore.has_state g.T.TenantStore.may_leave g.T.TenantStore.is_honest c.args.service.now c.args.service.now) c.args.buffers.now.read c.args.buffers.now.held
      (g.R.Read.remaining c.args.reader.now) (g.W.Write.contents c.args.writer.now) c.requires.unused c.requires.empty
      (join_none g.T.TenantStore.latched g.T.TenantStore.has_state g.T.TenantStore.may_leave g.T.TenantStore.is_honest c.args.service.now (λ is works. record {
        one = λ _ t s u. g.met.T.TenantStore.one_state c.args.service.now t s u is works;
        settled = λ _ t found there. g.met.T.TenantStore.settled c.args.service.now t found is works there;
      }));
}

pub loop-most-preserved : goal.loop-most-preserved
loop-most-preserved g c =
    let so_far = c.loop-most.invariant in record {
      some = omega (arith, c.in-Next.ensures.next.0);
      honest = λ is. so_far.honest (c.serve_one.ensures.honest is);
      rests = λ was. c.serve_one.ensures.rests (ap g.T.TenantStore.latched (so_far.rests was) ∙ was) ∙ so_far.rests was;
      reached =
          reached_one (Runs g.T.TenantStore.latched g.T.TenantStore.has_state g.T.TenantStore.may_leave g.T.TenantStore.is_honest c.args.service.now c.loop-most.service)
          (Runs g.T.TenantStore.latched g.T.TenantStore.has_state g.T.TenantStore.may_leave g.T.TenantStore.is_honest c.args.service.now c.serve_one.new.service) _ c.loop-most.most
          c.loop-most.buffers.read c.serve_one.new.buffers.read c.loop-most.buffers.held c.serve_one.new.buffers.held
          (g.R.Read.remaining c.args.reader.now) (g.R.Read.remaining c.loop-most.reader) (g.R.Read.remaining c.serve_one.new.reader)
          (g.W.Write.contents c.args.writer.now) (g.W.Write.contents c.loop-most.writer) (g.W.Write.contents c.serve_one.new.writer) so_far.reached c.in-Next.ensures.next.1
          (join_one g.T.TenantStore.latched g.T.TenantStore.has_state g.T.TenantStore.may_leave g.T.TenantStore.is_honest c.args.service.now c.loop-most.service c.serve_one.new.service c.serve_one.ensures.honest);
    }

pub returns-in-Ended-clause-served : goal.returns-in-Ended-clause-served
returns-in-Ended-clause-served g c =
    reached_end (Runs g.T.TenantStore.latched g.T.TenantStore.has_state g.T.TenantStore.may_leave g.T.TenantStore.is_honest c.args.service.now c.loop-most.service)
    (Runs g.T.TenantStore.latched g.T.TenantStore.has_state g.T.TenantStore.may_leave g.T.TenantStore.is_honest c.args.service.now c.serve_one.new.service) _ c.loop-most.most c.loop-most.buffers.read c.loop-most.buffers.held
    (g.R.Read.remaining c.args.reader.now) (g.R.Read.remaining c.loop-most.reader) (g.R.Read.remaining c.serve_one.new.reader)
    (g.W.Write.contents c.args.writer.now) (g.W.Write.contents c.loop-most.writer) (g.W.Write.contents c.finish.new.writer) c.finish.result
    (EndsHeld c.in-Ended.ended c.loop-most.buffers.held c.serve_one.new.buffers.held (g.W.Write.contents c.loop-most.writer) (g.W.Write.contents c.serve_one.new.writer))
    c.loop-most.invariant.reached c.in-Ended.ensures.ended
    (join_last g.T.TenantStore.latched g.T.TenantStore.has_state g.T.TenantStore.may_leave g.T.TenantStore.is_honest c.args.service.now c.loop-most.service c.serve_one.new.service c.serve_one.ensures.honest)
    (λ stop xs more first ends.
    finished c.in-Ended.ended c.finish.result stop (g.W.Write.contents c.args.writer.now) (g.W.Write.contents c.loop-most.writer) (g.W.Write.contents c.serve_one.new.writer)
    (g.W.Write.contents c.finish.new.writer) c.loop-most.buffers.held c.serve_one.new.buffers.held xs more first ends c.finish.ensures)

pub returns-in-Cut-clause-served : goal.returns-in-Cut-clause-served
returns-in-Cut-clause-served g c =
    reached_end (Runs g.T.TenantStore.latched g.T.TenantStore.has_state g.T.TenantStore.may_leave g.T.TenantStore.is_honest c.args.service.now c.loop-most.service)
    (Runs g.T.TenantStore.latched g.T.TenantStore.has_state g.T.TenantStore.may_leave g.T.TenantStore.is_honest c.args.service.now c.serve_one.new.service) _ c.loop-most.most c.loop-most.buffers.read c.loop-most.buffers.held
    (g.R.Read.remaining c.args.reader.now) (g.R.Read.remaining c.loop-most.reader) (g.R.Read.remaining c.serve_one.new.reader)
    (g.W.Write.contents c.args.writer.now) (g.W.Write.contents c.loop-most.writer) (g.W.Write.contents c.serve_one.new.writer) _
    (EndsCut c.loop-most.buffers.held (g.W.Write.contents c.loop-most.writer) (g.W.Write.contents c.serve_one.new.writer))
    c.loop-most.invariant.reached c.in-Cut.ensures.cut
    (join_last g.T.TenantStore.latched g.T.TenantStore.has_state g.T.TenantStore.may_leave g.T.TenantStore.is_honest c.args.service.now c.loop-most.service c.serve_one.new.service c.serve_one.ensures.honest)
    (λ stop xs more first ends.
    cut _ stop (g.W.Write.contents c.args.writer.now) (g.W.Write.contents c.loop-most.writer) (g.W.Write.contents c.serve_one.new.writer) c.loop-most.buffers.held xs more first ends refl)
