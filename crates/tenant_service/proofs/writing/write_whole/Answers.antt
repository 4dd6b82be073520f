use Rattle.tenant_service.proofs.Written.{up_to_more}
use Rattle.tenant_service.proofs.writing.write_whole.Goals as goal

-- what a write took was written too
pub loop-rest-preserved : goal.loop-rest-preserved
loop-rest-preserved g c =
    up_to_more (g.W.Write.contents c.args.writer.now) (g.W.Write.contents c.loop-rest.writer) (g.W.Write.contents c.write.new.self)
    c.args.bytes.now c.loop-rest.rest.now c.in-Ok.count c.loop-rest.invariant c.in-Ok.ensures.bytes
