use Rattle.std.proofs.Common.{◌≡◌, ◌∙◌, inl, sym, ap, Some, None}
use Rattle.crush_map.specs.Faults.{first_fault}
use Rattle.crush_grammar.specs.Words.{words}
use Rattle.crush_text.proofs.Texts.{at_end, end_faulty, says_map, clean_draft}
use Rattle.crush_text.proofs.read.map_of.Goals as goal

pub returns-in-Some-clause-refused : goal.returns-in-Some-clause-refused
returns-in-Some-clause-refused c =
    let end : at_end c.args.judge ≡ Some c.in-Some.code = sym (rw (c.into_parts-known.ensures.known, c.into_parts-known.ensures.draft) at c.end_fault.ensures) ∙ c.in-Some.is in
    rw (c.at_line.ensures, c.last_line.ensures) (inl (end_faulty (words c.args.text.now) c.args.judge c.in-Some.code c.requires end))

pub of-requires : goal.of-requires
of-requires c =
    let end : at_end c.args.judge ≡ None = sym (rw (c.into_parts-known.ensures.known, c.into_parts-known.ensures.draft) at c.end_fault.ensures) ∙ c.in-None.is in
    ap first_fault c.into_parts-known.ensures.draft ∙ clean_draft (words c.args.text.now) c.args.judge c.requires end

pub returns-clause-map : goal.returns-clause-map
returns-clause-map c =
    let end : at_end c.args.judge ≡ None = sym (rw (c.into_parts-known.ensures.known, c.into_parts-known.ensures.draft) at c.end_fault.ensures) ∙ c.in-None.is in
    says_map (words c.args.text.now) c.args.judge _ c.requires end (rw c.into_parts-known.ensures.draft at c.of.ensures.map) c.of.ensures.valid
