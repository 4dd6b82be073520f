use Rattle.std.proofs.Common.{rules}
use Rattle.crush_app.proofs.Inputs.{long_input}
use Rattle.crush_app.proofs.input.read_input.Goals as goal

-- one byte more than the limit was read
pub returns-then-len-limit-clause-long : goal.returns-then-len-limit-clause-long
returns-then-len-limit-clause-long g c = λ _. long_input c.args.limit c.in-Ok.input.items (g.R.Read.remaining c.args.reader.now) _ c.in-Ok.ensures (search rules)
