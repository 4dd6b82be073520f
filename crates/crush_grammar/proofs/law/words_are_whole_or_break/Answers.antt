use Rattle.crush_grammar.proofs.Whole as laws
use Rattle.crush_grammar.proofs.law.words_are_whole_or_break.Goals as goal

pub returns-clause-either : goal.returns-clause-either
returns-clause-either c = laws.either

pub returns-clause-not_both : goal.returns-clause-not_both
returns-clause-not_both c = laws.not_both

pub returns-clause-one_place : goal.returns-clause-one_place
returns-clause-one_place c = laws.one_place
