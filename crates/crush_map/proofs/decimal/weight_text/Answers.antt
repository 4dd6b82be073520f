use Rattle.std.proofs.Common.{◌∙◌, ap}
use Rattle.std.proofs.lemmas.Result.{IfOk-weaker}
use Rattle.crush_map.proofs.WeightText.{written_is}
use Rattle.crush_map.specs.WeightText.{with_five_decimals}
use Rattle.crush_map.proofs.decimal.weight_text.Goals as goal

pub returns : goal.returns
unfolding Rattle.crush_map.specs.WeightText.text_of
returns c = IfOk-weaker c.format.result _ _ (λ s h. h ∙ (written_is c.hundred_thousandths-n.result ∙ ap with_five_decimals c.hundred_thousandths-n.ensures.value)) c.format.ensures.ok
