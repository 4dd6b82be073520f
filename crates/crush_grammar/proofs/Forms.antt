-- What a text without a fault of form is, and what one with a fault is.
use Rattle.std.proofs.Common.{◌≡◌, List, Option, Some, None, MatchOption, sym, ap}
use Rattle.crush_grammar.specs.Words.{Word}
use Rattle.crush_grammar.proofs.Breaking.{breaks}
use Rattle.crush_grammar.proofs.Written.{is_written}
use Rattle.crush_grammar.specs.Automaton.{text}
use Rattle.crush_grammar.specs.Fronts.{Breaks}
use Rattle.crush_grammar.specs.Syntax.{Declares}
use Rattle.crush_grammar.specs.declared.code.TextFault.{TextFault}
use Rattle.crush_grammar.specs.declared.declaration.Declaration.{Declaration}

pub declares_or_breaks : (ws : List Word) (ds : List Declaration) (o : Option TextFault) → record { decls = ds; fault = o } ≡ text ws → MatchOption o (Declares ws ds) (λ f. Breaks ws ds f)
declares_or_breaks ws ds None e =
    let d : (text ws).decls ≡ ds = sym (ap (λ r. r.decls) e) in
    rw d at (is_written ws (sym (ap (λ r. r.fault) e)))
declares_or_breaks ws ds (Some f) e =
    let d : (text ws).decls ≡ ds = sym (ap (λ r. r.decls) e) in
    rw d at (breaks ws f (sym (ap (λ r. r.fault) e)))
