use Rattle.std.proofs.Common.{◌++◌, take}
use Rattle.std.specs.List.{flat_map}
use Rattle.tenant_service.specs.Writing.{AppendsUpTo}
use Rattle.crush_http.proofs.wire.put_pieces.Given as goal

-- the pieces so far came after what was held
abbrev pub invariant-loop-piece : goal.invariant-loop-piece
invariant-loop-piece g l = AppendsUpTo l.held (g.W.Write.contents l.fn.writer) (g.W.Write.contents l.writer) (l.fn.held ++ flat_map (λ p. p.now) (take l.piece-index l.pieces))
