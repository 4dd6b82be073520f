use Rattle.std.proofs.Common.{refl}
use Rattle.crush_http.proofs.Holding.{part_piece, put_piece}
use Rattle.crush_http.proofs.wire.put_pieces.Goals as goal

pub returns-then-not-put : goal.returns-then-not-put
returns-then-not-put g c =
    part_piece (λ piece. piece.now) c.args.pieces.now c.loop-piece.piece-index _
    (g.W.Write.contents c.args.writer.now) (g.W.Write.contents c.loop-piece.writer) (g.W.Write.contents c.put.new.writer)
    c.args.held.now c.loop-piece.held c.loop-piece-test.true c.loop-piece.invariant (c.if-not-put.ensures.part refl)

pub loop-piece-preserved : goal.loop-piece-preserved
loop-piece-preserved g c =
    put_piece (λ piece. piece.now) c.args.pieces.now c.loop-piece.piece-index _
    (g.W.Write.contents c.args.writer.now) (g.W.Write.contents c.loop-piece.writer) (g.W.Write.contents c.put.new.writer)
    c.args.held.now c.loop-piece.held c.put.new.self c.loop-piece-test.true c.loop-piece.invariant (c.if-not-put.ensures.whole refl)
