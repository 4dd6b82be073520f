-- A text of one map and of no fault is read as that map.
use Rattle.std.proofs.Common.{◌≡◌, ℕ, inl, inr, List, Result, Ok, Err, arith, ap}
use Rattle.std.specs.Prelude.{IfOk, IfErr}
use Rattle.crush_map.specs.Map.{Map}
use Rattle.crush_grammar.specs.declared.code.TextFault.{TextFault}
use Rattle.crush_text.specs.MapText.{HasFirstFault, IsRefusedFor, IsShort, IsTextOf}

pub stored_back : (text : List ℕ) (m : Map) (answer : Result Map TextFault) → ((n : Map) → IsTextOf text n → n ≡ m) → ((f : TextFault) → HasFirstFault text f → ⊥) →
    IfOk answer (λ n. IsTextOf text n) → IfErr answer (λ f. HasFirstFault text f) → answer ≡ Ok m
stored_back text m (Ok n) same none ok err = ap (λ x. Ok x) (same n ok)
stored_back text m (Err f) same none ok err = absurd (none f err)

not_refused : (text : List ℕ) (f : TextFault) → ((f : TextFault) → HasFirstFault text f → ⊥) → IsShort text → IsRefusedFor text f → ⊥
not_refused text f none short (inl (long, is)) = omega arith
not_refused text f none short (inr (s, has)) = none f has

pub imported_back : (text : List ℕ) (m : Map) (answer : Result Map TextFault) → ((n : Map) → IsTextOf text n → n ≡ m) → ((f : TextFault) → HasFirstFault text f → ⊥) → IsShort text →
    IfOk answer (λ n. IsShort text × IsTextOf text n) → IfErr answer (λ f. IsRefusedFor text f) → answer ≡ Ok m
imported_back text m (Ok n) same none short ok err = ap (λ x. Ok x) (same n ok.1)
imported_back text m (Err f) same none short ok err = absurd (not_refused text f none short err)
