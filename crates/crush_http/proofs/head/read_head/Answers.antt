use Rattle.std.proofs.Common.{◌≡◌}
use Rattle.crush_http.proofs.Streams.{reads_both}
use Rattle.crush_http.proofs.head.read_head.Goals as goal

pub returns-in-Err-read_from-clause-read : goal.returns-in-Err-read_from-clause-read
returns-in-Err-read_from-clause-read g c =
    reads_both c.args.buffer.now c.loop-found.buffer (g.R.Read.remaining c.args.reader.now) (g.R.Read.remaining c.loop-found.reader) (g.R.Read.remaining c.read_from.new.reader)
    (λ all. c.read_from.new.self ≡ all) c.loop-found.invariant.read c.read_from.ensures.read
