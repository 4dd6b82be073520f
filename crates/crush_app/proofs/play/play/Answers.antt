use Rattle.std.proofs.Common.{◌≤◌, [], ◌∷◌, false, length, refl, subst, sym, arith}
use Rattle.std.proofs.lemmas.Bool.Decides.{nat_tests}
use Rattle.crush_app.proofs.Ending.{headline_of}
use Rattle.crush_app.proofs.Playing.{rest_more, rest_cut, rest_latched, rest_none}
use Rattle.crush_app.proofs.Stopping.{rest_stopped, stopped_whole}
use Rattle.crush_app.specs.Play.{Plays}
use Rattle.crush_app.specs.Script.{messages, messages_in}
use Rattle.crush_app.specs.declared.play.ScriptEnd.TheVariants.{Done, Latched, WriteFault}
use Rattle.crush_app.proofs.play.play.Goals as goal

pub returns-then-not-play_line-clause-plays : goal.returns-then-not-play_line-clause-plays
returns-then-not-play_line-clause-plays g c = λ honest.
    let store = g.T.TenantStore in
    let old = c.args.service.now in
    let mid = c.loop-rest.service in
    let new = c.play_line.new.service in
    let a = g.W.Write.contents c.args.writer.now in
    let b = g.W.Write.contents c.loop-rest.writer in
    let d = g.W.Write.contents c.play_line.new.writer in
    let input = c.args.input.now in
    let before = c.loop-rest.invariant.played (c.play_line.ensures.honest honest) in
    let plays = rest_cut (store.latched new) (store.has_state old) (store.has_state mid) (store.has_state new) a b d input c.loop-rest.rest.now c.first_line.result.0.now c.first_line.result.1.now c.first_line.ensures.lines before
    (c.if-not-play_line.ensures.cut honest refl) in
    record {
      plays = plays;
      headline = headline_of WriteFault (store.latched new) (store.has_state old) (store.has_state new) (store.may_leave new) (messages input) a d plays;
      stop = rest_stopped (store.has_state old) (store.has_state mid) (store.may_leave new) a b d input c.loop-rest.rest.now c.first_line.result.0.now c.first_line.result.1.now c.first_line.ensures.lines before
          (c.play_line.ensures.stop honest);
    }

pub returns-then-is_latched-clause-plays : goal.returns-then-is_latched-clause-plays
returns-then-is_latched-clause-plays g c = λ honest.
    let store = g.T.TenantStore in
    let laws = g.met.T.TenantStore in
    let old = c.args.service.now in
    let mid = c.loop-rest.service in
    let new = c.play_line.new.service in
    let a = g.W.Write.contents c.args.writer.now in
    let b = g.W.Write.contents c.loop-rest.writer in
    let d = g.W.Write.contents c.play_line.new.writer in
    let input = c.args.input.now in
    let was = c.play_line.ensures.honest honest in
    let works = c.loop-rest.invariant.works in
    let before = c.loop-rest.invariant.played was in
    let plays = rest_latched (store.has_state old) (store.has_state mid) (store.has_state new) (store.may_leave mid) (store.may_leave new) a b d input c.loop-rest.rest.now c.first_line.result.0.now c.first_line.result.1.now c.first_line.ensures.lines
    (record { one = λ _ t s u. laws.one_state mid t s u was works; settled = λ _ t found there. laws.settled mid t found was works there }) before (c.if-not-play_line.ensures.latch honest (sym c.if-is_latched.ensures) refl) in
    record {
      plays = plays;
      headline = headline_of Latched (store.latched new) (store.has_state old) (store.has_state new) (store.may_leave new) (messages input) a d plays;
      stop = rest_stopped (store.has_state old) (store.has_state mid) (store.may_leave new) a b d input c.loop-rest.rest.now c.first_line.result.0.now c.first_line.result.1.now c.first_line.ensures.lines before
          (c.play_line.ensures.stop honest);
    }

pub returns-clause-plays : goal.returns-clause-plays
returns-clause-plays g c = λ honest.
    let store = g.T.TenantStore in
    let laws = g.met.T.TenantStore in
    let old = c.args.service.now in
    let new = c.loop-rest.service in
    let a = g.W.Write.contents c.args.writer.now in
    let b = g.W.Write.contents c.loop-rest.writer in
    let input = c.args.input.now in
    let works = c.loop-rest.invariant.works in
    let none : length c.loop-rest.rest.now ≤ 0 = grind (arith, nat_tests, c.is_empty.ensures, c.loop-rest-test.false) in
    let plays = rest_none (store.has_state old) (store.has_state new) a b input c.loop-rest.rest.now none (c.loop-rest.invariant.played honest) in
    record {
      plays = plays;
      headline = headline_of Done (store.latched new) (store.has_state old) (store.has_state new) (store.may_leave new) (messages input) a b plays;
      stop = stopped_whole (store.has_state old) (store.has_state new) (store.may_leave new) (messages input) a b
          (record { one = λ _ t s u. laws.one_state new t s u honest works; settled = λ _ t found there. laws.settled new t found honest works there }) plays;
    }

pub loop-rest-preserved : goal.loop-rest-preserved
loop-rest-preserved g c = record {
  honest = λ honest. c.loop-rest.invariant.honest (c.play_line.ensures.honest honest);
  works = sym c.if-is_latched.ensures;
  played = λ honest.
      rest_more (g.T.TenantStore.has_state c.args.service.now) (g.T.TenantStore.has_state c.loop-rest.service) (g.T.TenantStore.has_state c.play_line.new.service)
      (g.W.Write.contents c.args.writer.now) (g.W.Write.contents c.loop-rest.writer) (g.W.Write.contents c.play_line.new.writer)
      c.args.input.now c.loop-rest.rest.now c.first_line.result.0.now c.first_line.result.1.now c.first_line.ensures.lines
      (c.loop-rest.invariant.played (c.play_line.ensures.honest honest))
      (subst (λ b. Plays b (g.T.TenantStore.has_state c.loop-rest.service) (g.T.TenantStore.has_state c.play_line.new.service) (messages_in (c.first_line.result.0.now ∷ []))
      (g.W.Write.contents c.loop-rest.writer) (g.W.Write.contents c.play_line.new.writer)) (sym c.if-is_latched.ensures) (c.if-not-play_line.ensures.whole honest refl));
}
