use Rattle.std.proofs.Common.{◌∙◌, Some, None}
use Rattle.std.proofs.lemmas.Bool.Decides.{Decides-eqb}
use Rattle.std.proofs.lemmas.Slice.Eq.{strip_prefix_is}
use Rattle.crush_grammar.proofs.Marks.{asks_after, asks_unless}
use Rattle.crush_grammar.proofs.mark.asks_for_straw2.Goals as goal

pub returns-in-Some : goal.returns-in-Some
returns-in-Some c =
    let begins = strip_prefix_is Decides-eqb c.args.text.now c.as_bytes.result.now (Some c.in-Some.rest) c.in-Some.ensures.cases in
    c.ends_line.ensures ∙ asks_after _ _ _ (c.as_bytes.ensures.value ∙ c.straw2_mark.ensures) begins

pub returns-in-None : goal.returns-in-None
returns-in-None c =
    let none = strip_prefix_is Decides-eqb c.args.text.now c.as_bytes.result.now None c.in-None.ensures.cases in
    asks_unless _ _ (c.as_bytes.ensures.value ∙ c.straw2_mark.ensures) none
