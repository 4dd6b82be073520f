use Rattle.std.proofs.Common.{refl}
use Rattle.crush_http.proofs.Pieces.{phrase_known}
use Rattle.crush_http.proofs.wire.phrase.Goals as goal

pub returns-in-Ok : goal.returns-in-Ok
returns-in-Ok c =
    phrase_known c.args.status c.in-Ok.code c.canonical_reason.result c.unwrap_or.result _ c.in-Ok.ensures.0.0 c.in-Ok.ensures.0.1 c.in-Ok.ensures.1 c.canonical_reason.ensures.value c.unwrap_or.ensures refl
