use Rattle.std.proofs.Common.{[], ◌∷◌, sym, ◌∙◌}
use Rattle.std.proofs.lemmas.Bool.{false≢true}
use Rattle.crush_app.proofs.Playing.{plays_empty}
use Rattle.crush_app.proofs.Stopping.{stopped_whole}
use Rattle.crush_app.specs.Script.{messages_in}
use Rattle.crush_app.proofs.play.play_line.Goals as goal

pub returns-then-is_empty-clause-whole : goal.returns-then-is_empty-clause-whole
returns-then-is_empty-clause-whole g c = λ honest yes.
    rw c.requires.works (plays_empty (g.T.TenantStore.has_state c.args.service.now) (g.W.Write.contents c.args.writer.now) c.args.line.now c.if-is_empty.ensures)

pub returns-then-is_empty-clause-stop : goal.returns-then-is_empty-clause-stop
returns-then-is_empty-clause-stop g c = λ honest.
    let store = g.met.T.TenantStore in
    let old = c.args.service.now in
    let works = c.requires.works in
    stopped_whole (g.T.TenantStore.has_state old) (g.T.TenantStore.has_state old) (g.T.TenantStore.may_leave old) (messages_in (c.args.line.now ∷ [])) (g.W.Write.contents c.args.writer.now) (g.W.Write.contents c.args.writer.now)
    (record { one = λ _ t s u. store.one_state old t s u honest works; settled = λ _ t found there. store.settled old t found honest works there })
    (plays_empty (g.T.TenantStore.has_state old) (g.W.Write.contents c.args.writer.now) c.args.line.now c.if-is_empty.ensures)

pub returns-then-is_empty-clause-latch : goal.returns-then-is_empty-clause-latch
returns-then-is_empty-clause-latch g c = λ honest shut yes. absurd (false≢true (sym c.requires.works ∙ shut))
