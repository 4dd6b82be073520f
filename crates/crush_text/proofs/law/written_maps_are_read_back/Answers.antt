use Rattle.crush_writing.specs.Canonical.{canonical}
use Rattle.crush_text.proofs.ReadBack.{imported_back, stored_back}
use Rattle.crush_text.proofs.law.written_maps_are_read_back.Goals as goal

pub returns : goal.returns
returns c =
    let own = c.canonical_texts_are_read.ensures.own in
    let alone = c.canonical_texts_are_read.ensures.alone in
    let none = c.texts_of_maps_have_no_fault.ensures in
    record {
      imported = λ m is short. (c.texts_are_read_as_they_say.ensures.map (canonical m) m).1 (short, own m is);
      stored = λ m is. (c.texts_are_read_as_they_say.ensures.stored_map (canonical m) m).1 (own m is);
      by_read_map = λ m answer is short ok err. imported_back (canonical m) m answer (λ n says. alone m n is says) (λ f. none (canonical m) m f (own m is)) short ok err;
      by_read_stored = λ m answer is ok err. stored_back (canonical m) m answer (λ n says. alone m n is says) (λ f. none (canonical m) m f (own m is)) ok err;
    }
