use Rattle.crush_map.specs.Map.{Map, IsMap, draft_of}
use Rattle.crush_text.proofs.Ascii.{ascii, utf8}
use Rattle.crush_text.proofs.SoundMap.{Sound}
use Rattle.crush_text.proofs.law.canonical_texts_are_ascii.Goals as goal

pub returns : goal.returns
returns c =
    let sound : (m : Map) → IsMap m → Sound m = λ m is. record {
      types = λ i. c.numbers_are_sound.ensures.types m i is;
      devices = λ i. c.numbers_are_sound.ensures.devices m i is;
      buckets = λ i. c.buckets_are_sound.ensures m i is;
      rules = λ i. c.rules_are_sound.ensures m i is;
      tunables = c.numbers_are_sound.ensures.tunables m is;
      type_names = c.numbers_and_names_are_once.ensures.type_names m is;
      item_names = c.numbers_and_names_are_once.ensures.item_names m is;
      faultless = c.first_fault_is_first.ensures.none (draft_of m) is.faultless;
      weight_word = c.weight_comes_back.ensures.word;
      weight_back = c.weight_comes_back.ensures.back;
    } in
    record { ascii = λ m is. ascii m (sound m is); utf8 = λ m is. utf8 m (sound m is) }
