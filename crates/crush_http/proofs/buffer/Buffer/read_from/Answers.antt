use Rattle.std.proofs.Common.{◌++◌, List, take, arith, ap, ◌∙◌, ℕ, length-append, length-take, length-drop}
use Rattle.crush_http.proofs.Streams.{reads_in, filled_in}
use Rattle.crush_http.proofs.buffer.Buffer.read_from.Goals as goal

pub returns-clause-read : goal.returns-clause-read
returns-clause-read g c =
    reads_in (g.R.Read.remaining c.args.reader.now) (g.R.Read.remaining c.read.new.self) c.in_ok-count.count c.args.self.now c.read.new.buf _ c.in_ok-count.ensures.bytes.0
    (filled_in c.self.inside.filled c.in_ok-count.count _ c.deref_mut.result.now c.read.new.buf _ _ (omega arith) c.in_ok-count.ensures.bound.0
    (omega (arith, length-append {A = ℕ}, length-take {A = ℕ}, length-drop {A = ℕ}, c.deref_mut.ensures.len))
    ∙ ap (λ (zs : List ℕ). zs ++ take c.in_ok-count.count c.read.new.buf) (ap (take c.self.inside.filled) c.deref_mut.ensures.value ∙ c.self.view_is))
