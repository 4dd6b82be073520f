use Rattle.std.proofs.Common.{ℕ, arith, ◌∙◌, length-append, length-take, length-drop}
use Rattle.std.proofs.lemmas.Slice.{take-put_mid_below}
use Rattle.crush_http.proofs.Streams.{consumes_filled, consumes_kept, few_filled}
use Rattle.crush_http.proofs.body.read_rest.Goals as goal

pub loop-filled-preserved : goal.loop-filled-preserved
loop-filled-preserved g c = record {
  size = omega (arith, length-append {A = ℕ}, length-take {A = ℕ}, length-drop {A = ℕ}, c.loop-filled.invariant.size);
  within = (omega arith, omega (arith, length-append {A = ℕ}, length-take {A = ℕ}, length-drop {A = ℕ}, c.in-Ok.ensures.bound.0));
  front = take-put_mid_below c.loop-filled.filled _ c.loop-filled.body c.read.new.buf c.args.start (c.loop-filled.invariant.within.0) (c.loop-filled.invariant.within.1) ∙ c.loop-filled.invariant.front;
  taken = consumes_filled (g.R.Read.remaining c.args.reader.now) (g.R.Read.remaining c.loop-filled.reader) (g.R.Read.remaining c.read.new.self) c.args.start c.loop-filled.filled c.in-Ok.count
      c.loop-filled.body c.read.new.buf _ c.loop-filled.invariant.within.0 c.loop-filled.invariant.within.1 c.in-Ok.ensures.bound.0 c.loop-filled.invariant.taken c.in-Ok.ensures.bytes.0;
}

pub returns-in-Err-clause-fault : goal.returns-in-Err-clause-fault
returns-in-Err-clause-fault g c = λ yes.
    few_filled (g.R.Read.remaining c.args.reader.now) (g.R.Read.remaining c.loop-filled.reader) (g.R.Read.remaining c.read.new.self) c.args.start c.loop-filled.filled _ c.loop-filled.body
    c.loop-filled.invariant.size c.loop-filled.invariant.within.0 (omega arith) c.loop-filled.invariant.taken
    (consumes_kept (g.R.Read.remaining c.loop-filled.reader) (g.R.Read.remaining c.read.new.self) c.in-Err.ensures.bytes)
