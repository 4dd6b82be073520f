use Rattle.crush_text.proofs.Reading as reading
use Rattle.crush_text.proofs.law.texts_have_a_map_or_one_fault.Goals as goal

pub returns : goal.returns
returns c =
    let maps = c.texts_are_read_as_they_say.ensures.stored_map in
    let faults = c.texts_are_read_as_they_say.ensures.stored_refused in
    record { either = λ text. reading.either text (maps text) (faults text); one_fault = λ text f g p q. reading.one_fault text f g (faults text) p q }
