use Rattle.std.proofs.Common.{ap, List, true}
use Rattle.crush_bucket.specs.Tables.{tables_of}
use Rattle.crush_choose.specs.Marks.{Slot}
use Rattle.crush_choose.specs.Rules.{choose_call, leaf_tries, with_chosen}
use Rattle.crush_choose.proofs.Devices.{leafless, step_same}
use Rattle.crush_choose.proofs.laws.chooseleaf_of_devices_is_choose.Goals as goal

pub returns-clause-marks : goal.returns-clause-marks
returns-clause-marks c = leafless

pub returns-clause-out : goal.returns-clause-out
returns-clause-out c = λ t w tunables s x size n working typed.
    step_same t w typed (choose_call tunables s x size true true n 0) (leaf_tries tunables s true) size working

pub returns-clause-map : goal.returns-clause-map
returns-clause-map c = λ m w x size s n is.
    ap (λ (out : List Slot). with_chosen s out)
    (step_same (tables_of m) w (c.no_bucket_of_a_map_has_type_0.ensures m is) (choose_call m.tunables s.settings x size true true n 0) (leaf_tries m.tunables s.settings true) size s.working)
