use Rattle.crush_map.proofs.WeightText.{Writes-from_reading, reading-from_Writes}
use Rattle.crush_map.proofs.decimal.weight_texts_are_read.Goals as goal

pub returns : goal.returns
returns c = λ text w. (Writes-from_reading text w, reading-from_Writes text w)
