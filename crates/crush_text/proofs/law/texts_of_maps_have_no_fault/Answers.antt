use Rattle.crush_grammar.specs.Words.{words}
use Rattle.crush_text.proofs.Texts.{no_fault_of_map}
use Rattle.crush_text.proofs.law.texts_of_maps_have_no_fault.Goals as goal

pub returns : goal.returns
returns c = λ bytes m f says fault. no_fault_of_map c.words_declare_once.ensures c.words_are_whole_or_break.ensures.not_both (words bytes) m f says fault
