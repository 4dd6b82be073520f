use Rattle.std.proofs.Common.{sym, ◌∙◌}
use Rattle.crush_app.specs.Script.{is_space}
use Rattle.crush_app.proofs.LineLemmas.{before-some, after-some, before-none, after-none}
use Rattle.crush_app.proofs.script.at_space.Goals as goal

pub returns-in-Some-clause-before : goal.returns-in-Some-clause-before
returns-in-Some-clause-before c = before-some is_space c.args.bytes.now c.in-Some.index (sym c.index_of.ensures ∙ c.in-Some.is)

pub returns-in-Some-clause-after : goal.returns-in-Some-clause-after
returns-in-Some-clause-after c = after-some is_space c.args.bytes.now c.in-Some.index (sym c.index_of.ensures ∙ c.in-Some.is)

pub returns-in-None-clause-before : goal.returns-in-None-clause-before
returns-in-None-clause-before c = before-none is_space c.args.bytes.now (sym c.index_of.ensures ∙ c.in-None.is)

pub returns-in-None-clause-after : goal.returns-in-None-clause-after
returns-in-None-clause-after c = after-none is_space c.args.bytes.now (sym c.index_of.ensures ∙ c.in-None.is)
