use Rattle.std.proofs.Common.{sym, ◌∙◌}
use Rattle.crush_app.proofs.LineLemmas.{lines-some, lines-none}
use Rattle.crush_app.proofs.script.first_line.Goals as goal

pub returns-in-Some-clause-lines : goal.returns-in-Some-clause-lines
returns-in-Some-clause-lines c = lines-some c.args.input.now c.in-Some.index c.without_return.result.now (sym c.index_of.ensures ∙ c.in-Some.is) c.without_return.ensures

pub returns-in-None-clause-lines : goal.returns-in-None-clause-lines
returns-in-None-clause-lines c = lines-none c.args.input.now c.requires (sym c.index_of.ensures ∙ c.in-None.is)
