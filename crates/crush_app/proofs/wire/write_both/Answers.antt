use Rattle.std.proofs.Common.{refl}
use Rattle.tenant_service.proofs.Written.{part_first, part_after}
use Rattle.crush_app.proofs.wire.write_both.Goals as goal

pub returns-then-not-write_whole-clause-part : goal.returns-then-not-write_whole-clause-part
returns-then-not-write_whole-clause-part g c = λ no. part_first (g.W.Write.contents c.args.writer.now) (g.W.Write.contents c.write_whole.new.writer) c.args.first.now c.args.second.now (c.if-not-write_whole.ensures.part refl)

pub returns-clause-part : goal.returns-clause-part
returns-clause-part g c = λ no.
    part_after (g.W.Write.contents c.args.writer.now) (g.W.Write.contents c.write_whole.new.writer) (g.W.Write.contents c.write_whole-2.new.writer) c.args.first.now c.args.second.now
    (c.if-not-write_whole.ensures.whole refl) (c.write_whole-2.ensures.part no)
