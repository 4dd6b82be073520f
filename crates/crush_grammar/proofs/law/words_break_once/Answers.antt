use Rattle.crush_grammar.proofs.Unique as laws
use Rattle.crush_grammar.proofs.law.words_break_once.Goals as goal

pub returns : goal.returns
returns c = laws.once
