use Rattle.std.proofs.lemmas.List.{length-map}
use Rattle.std.proofs.lemmas.List.Elements.{filter_passes}
use Rattle.crush_pool.specs.Placements.{is_up_slot, if_up}
use Rattle.crush_pool.proofs.Uplists.{at_up, at_down}
use Rattle.crush_pool.proofs.laws.up_lists_have_what_is_up.Goals as goal

pub returns-clause-replicated : goal.returns-clause-replicated
returns-clause-replicated c = λ flags raw. filter_passes (is_up_slot flags) raw

pub returns-clause-length : goal.returns-clause-length
returns-clause-length c = λ flags raw. length-map raw (if_up flags)

pub returns-clause-same : goal.returns-clause-same
returns-clause-same c = at_up

pub returns-clause-none : goal.returns-clause-none
returns-clause-none c = at_down
