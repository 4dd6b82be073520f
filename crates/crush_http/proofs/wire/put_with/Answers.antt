use Rattle.std.proofs.Common.{subst, ◌∙◌}
use Rattle.crush_http.specs.Private.Served.{Puts}
use Rattle.crush_http.proofs.Pieces.{reply_pieces}
use Rattle.crush_http.proofs.wire.put_with.Goals as goal

pub returns : goal.returns
returns g c =
    subst (Puts c.put_pieces.result c.args.held.now c.put_pieces.new.held (g.W.Write.contents c.args.writer.now) (g.W.Write.contents c.put_pieces.new.writer))
    (reply_pieces _ c.args.last c.args.status c.args.body.now _ _ _ _ c.pieces_of-pieces.ensures (c.as_bytes-status_digits.ensures.value ∙ c.format.ensures.text)
    (c.as_bytes.ensures.value ∙ c.phrase.ensures) (c.as_bytes-size_digits.ensures.value ∙ c.format-2.ensures.text) c.close_line.ensures)
    c.put_pieces.ensures
