-- What a text is found to be: a map, or refused for its first fault.
use Rattle.std.proofs.Common.{◌≡◌, ◌∙◌, ◌⊎◌, inl, inr, List, Option, Some, None, MatchOption, sym, ap}
use Rattle.std.proofs.Common.{Result, Ok}
use Rattle.std.specs.Result.{result_err}
use Rattle.std.proofs.Common.{IfOk}
use Rattle.crush_map.specs.declared.fault.FaultCode.{FaultCode}
use Rattle.crush_map.specs.Faults.{or_else, end_fault, first_fault}
use Rattle.crush_map.specs.Map.{Map, IsMap, IsMapOf}
use Rattle.crush_grammar.specs.Words.{Word}
use Rattle.crush_grammar.specs.Syntax.{Declares}
use Rattle.crush_grammar.specs.Fronts.{Breaks, IsWhole, last_line}
use Rattle.crush_grammar.specs.declared.code.TextCode.TheVariants.{Map as MapCode}
use Rattle.crush_grammar.specs.declared.code.TextFault.{TextFault}
use Rattle.crush_grammar.specs.declared.declaration.Declaration.{Declaration}
use Rattle.crush_text.specs.Judging.{Declared, declared, declared_fault, at_line, last_fault}
use Rattle.crush_text.specs.MapText.{SaysMap, HasMapFault, HasFormFault}
use Rattle.crush_text.specs.Private.Clean.{IsClean}
use Rattle.crush_text.proofs.Checks.{both_none}
use Rattle.crush_text.proofs.Faultless.{faultless}

abbrev pub at_end : Declared → Option FaultCode
at_end s = end_fault s.known s.draft.tunables s.draft.local_tries s.draft.local_fallback_tries

draft_of_form : (ws : List Word) (ds : List Declaration) → Declares ws ds → declared_fault ds ≡ None → at_end (declared ds) ≡ None → first_fault (declared ds).draft ≡ None
draft_of_form ws ds (t, words, says) each end = rw says (faultless t (rw says at each) (rw says at end))

-- a text in which no declaration has a fault, and the end has none, declares a draft without one
pub clean_draft : (ws : List Word) (s : Declared) → IsClean ws s → at_end s ≡ None → first_fault s.draft ≡ None
clean_draft ws s clean end = rw clean.all (draft_of_form ws clean.declarations clean.form clean.each (rw clean.all at end))

pub says_map : (ws : List Word) (s : Declared) (m : Map) → IsClean ws s → at_end s ≡ None → IsMapOf s.draft m → IsMap m → SaysMap ws m
says_map ws s m clean end same valid =
    let none : at_end (declared clean.declarations) ≡ None = rw clean.all at end in
    record {
      declarations = clean.declarations;
      form = clean.form;
      each = clean.each;
      end = ap (at_line (last_line 1 ws)) none;
      draft = rw clean.all at same;
      map = valid;
    }

pub end_faulty : (ws : List Word) (s : Declared) (code : FaultCode) → IsClean ws s → at_end s ≡ Some code → HasMapFault ws (record { line = last_line 1 ws; code = MapCode code })
end_faulty ws s code clean end =
    let some : at_end (declared clean.declarations) ≡ Some code = rw clean.all at end in
    record {
      declarations = clean.declarations;
      form = clean.form;
      first = ap (λ o. or_else o (last_fault (last_line 1 ws) (declared clean.declarations))) clean.each ∙ ap (at_line (last_line 1 ws)) some;
    }

-- ---- what reading finds

pub clean : (ws : List Word) (ds xs : List Declaration) (o : Option TextFault) (answer : Result Declared TextFault) (s : Declared) → xs ≡ ds → MatchOption o (Declares ws ds) (λ at. Breaks ws ds at) → o ≡ None →
    result_err answer ≡ declared_fault xs → IfOk answer (λ judge. judge ≡ declared xs) → answer ≡ Ok s → IsClean ws s
clean ws ds xs o answer s same form none each all is = record { declarations = xs; form = rw same (rw none at form); each = sym (rw is at each); all = rw is at all }

-- a declaration has the first fault, whether or not the words leave the grammar behind it
pub faulty : (ws : List Word) (ds xs : List Declaration) (o : Option TextFault) (f : TextFault) → xs ≡ ds → MatchOption o (Declares ws ds) (λ at. Breaks ws ds at) → declared_fault xs ≡ Some f → HasMapFault ws f ⊎ HasFormFault ws f
faulty ws ds xs None f same form is = inl (record { declarations = xs; form = rw same form; first = ap (λ o. or_else o (last_fault (last_line 1 ws) (declared xs))) is })
faulty ws ds xs (Some at) f same breaks is = inr (record { declarations = xs; at = at; breaks = rw same breaks; first = ap (λ o. or_else o (Some at)) is })

-- ---- a text of a map has no fault

pub no_fault_of_map : ((ws : List Word) (ds es : List Declaration) → Declares ws ds → Declares ws es → ds ≡ es) → ((ws : List Word) (ds : List Declaration) (f : TextFault) → Breaks ws ds f → ¬ (IsWhole ws)) →
    (ws : List Word) (m : Map) (f : TextFault) → SaysMap ws m → HasMapFault ws f ⊎ HasFormFault ws f → ⊥
no_fault_of_map once never ws m f says (inl fault) =
    let same : fault.declarations ≡ says.declarations = once ws fault.declarations says.declarations fault.form says.form in
    let none : or_else (declared_fault says.declarations) (last_fault (last_line 1 ws) (declared says.declarations)) ≡ None = both_none _ _ says.each says.end in
    let some : or_else (declared_fault says.declarations) (last_fault (last_line 1 ws) (declared says.declarations)) ≡ Some f = rw same at fault.first in
    absurd (cc)
no_fault_of_map once never ws m f says (inr fault) = never ws fault.declarations fault.at fault.breaks (says.declarations, says.form)
