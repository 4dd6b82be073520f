use Rattle.std.proofs.Common.{refl, ◌++◌, ◌∷◌, []}
use Rattle.tenant_service.proofs.Written.{part_first, part_after}
use Rattle.crush_app.proofs.wire.write_long.Goals as goal

pub returns-then-not-write_both-clause-part : goal.returns-then-not-write_both-clause-part
returns-then-not-write_both-clause-part g c = λ no.
    part_first (g.W.Write.contents c.args.writer.now) (g.W.Write.contents c.write_both.new.writer) (c.args.status.now ++ 32 ∷ []) (c.args.body.now ++ 10 ∷ []) (c.if-not-write_both.ensures.part refl)

pub returns-clause-part : goal.returns-clause-part
returns-clause-part g c = λ no.
    part_after (g.W.Write.contents c.args.writer.now) (g.W.Write.contents c.write_both.new.writer) (g.W.Write.contents c.write_both-2.new.writer) (c.args.status.now ++ 32 ∷ []) (c.args.body.now ++ 10 ∷ [])
    (c.if-not-write_both.ensures.whole refl) (c.write_both-2.ensures.part no)
