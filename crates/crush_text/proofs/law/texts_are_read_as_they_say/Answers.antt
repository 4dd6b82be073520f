use Rattle.crush_text.proofs.Reading.{text_map, text_refused, stored_map, stored_refused}
use Rattle.crush_text.proofs.law.texts_are_read_as_they_say.Goals as goal

pub returns : goal.returns
returns c =
    let whole = c.words_are_read_as_they_say.ensures.whole in
    let broken = c.words_are_read_as_they_say.ensures.broken in
    let maps = c.drafts_declare_maps.ensures in
    record { map = text_map maps whole; refused = text_refused whole broken; stored_map = stored_map maps whole; stored_refused = stored_refused whole broken }
