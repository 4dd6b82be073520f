use Rattle.crush_grammar.proofs.Unique as laws
use Rattle.crush_grammar.proofs.law.words_are_read_as_they_say.Goals as goal

pub returns-clause-whole : goal.returns-clause-whole
returns-clause-whole c = laws.whole

pub returns-clause-broken : goal.returns-clause-broken
returns-clause-broken c = laws.broken
