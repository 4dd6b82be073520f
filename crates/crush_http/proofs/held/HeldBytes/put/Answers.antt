use Rattle.std.proofs.Common.{refl}
use Rattle.crush_http.proofs.Holding.{written_after}
use Rattle.crush_http.proofs.held.HeldBytes.put.Goals as goal

pub returns-then-bytes-gt-HELD_LIMIT-clause-whole : goal.returns-then-bytes-gt-HELD_LIMIT-clause-whole
returns-then-bytes-gt-HELD_LIMIT-clause-whole g c = λ yes.
    written_after (g.W.Write.contents c.args.writer.now) (g.W.Write.contents c.flush.new.writer) (g.W.Write.contents c.write_whole.new.writer) c.args.self.now c.flush.new.self c.args.bytes.now
    (c.if-not-flush.ensures.whole refl) c.flush.ensures.none (c.write_whole.ensures.whole yes)
