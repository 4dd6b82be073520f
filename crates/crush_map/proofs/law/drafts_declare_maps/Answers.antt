use Rattle.crush_map.proofs.Valid.{is_map}
use Rattle.crush_map.proofs.law.drafts_declare_maps.Goals as goal

pub returns : goal.returns
returns c = λ d m none same order. is_map d m same order.types order.devices order.rules none
