use Rattle.crush_map.specs.Map.{Map, IsMap, draft_of}
use Rattle.crush_writing.specs.Canonical.{canonical}
use Rattle.crush_text.specs.MapText.{IsTextOf}
use Rattle.crush_text.proofs.Round.{is_text_of}
use Rattle.crush_text.proofs.law.canonical_texts_are_read.Goals as goal

pub returns : goal.returns
returns c =
    let own : (m : Map) → IsMap m → IsTextOf (canonical m) m = λ m is. is_text_of m (record {
      types = λ i. c.numbers_are_sound.ensures.types m i is;
      devices = λ i. c.numbers_are_sound.ensures.devices m i is;
      buckets = λ i. c.buckets_are_sound.ensures m i is;
      rules = λ i. c.rules_are_sound.ensures m i is;
      tunables = c.numbers_are_sound.ensures.tunables m is;
      type_names = c.numbers_and_names_are_once.ensures.type_names m is;
      item_names = c.numbers_and_names_are_once.ensures.item_names m is;
      faultless = c.first_fault_is_first.ensures.none (draft_of m) is.faultless;
      weight_word = c.weight_comes_back.ensures.word;
      weight_back = c.weight_comes_back.ensures.back;
    }) is in
    record { own = own; alone = λ m n is p. c.texts_say_one_map.ensures (canonical m) n m p (own m is) }
