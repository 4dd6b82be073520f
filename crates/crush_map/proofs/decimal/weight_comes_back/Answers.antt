use Rattle.crush_map.proofs.WeightText.{comes_back, is_name-text_of}
use Rattle.crush_map.proofs.decimal.weight_comes_back.Goals as goal

pub returns-clause-back : goal.returns-clause-back
returns-clause-back c = comes_back

pub returns-clause-word : goal.returns-clause-word
returns-clause-word c = is_name-text_of
