-- Only a text over its length is refused by X7.
use Rattle.std.proofs.Common.{◌≡◌, ◌∙◌, ◌↔◌, ap, sym, arith, ℕ, ◌<◌, inl, inr, List, [], ◌∷◌, length, take, slice_get, Option, Some, None, option_map, IsSomeAnd}
use Rattle.crush_map.specs.declared.fault.FaultCode.{FaultCode}
use Rattle.crush_map.specs.Faults.{or_else}
use Rattle.crush_text.specs.crush_grammar.specs.Words.{Word, words}
use Rattle.crush_text.specs.crush_grammar.specs.Fronts.{Breaks, HasCode, last_line}
use Rattle.crush_text.specs.crush_grammar.specs.declared.code.TextCode.{TextCode}
use Rattle.crush_text.specs.crush_grammar.specs.declared.code.TextCode.TheVariants.{X1, X2, X3, X4, X5, X6, X7, Map}
use Rattle.crush_text.specs.crush_grammar.specs.declared.code.TextFault.{TextFault}
use Rattle.crush_text.specs.crush_grammar.specs.declared.declaration.Declaration.{Declaration}
use Rattle.crush_text.specs.crush_grammar.specs.declared.declaration.Declaration.TheVariants.{Tunable, Device, TypeName, Bucket, Rule}
use Rattle.crush_text.specs.declared.limits.TheConstants.{TEXT_LIMIT}
use Rattle.crush_text.specs.Judging.{Declared, nothing_declared, declared, declare, at_line, declaration_fault, declared_bucket_fault, fault_from, declared_fault, last_fault}
use Rattle.crush_text.specs.MapText.{IsRefusedFor}

-- ---- what is declared

no_map_code : (line : ℕ) (o : Option FaultCode) (f : TextFault) → f.code ≡ X7 → at_line line o ≡ Some f → ⊥
no_map_code line None f x h = cc
no_map_code line (Some code) f x h =
    let same : record { line = line; code = Map code } ≡ f = cc in
    let both : Map code ≡ X7 = ap (λ g. g.code) same ∙ x in
    cc

no_place : (o : Option ℕ) (f : TextFault) → f.code ≡ X7 → option_map (λ line. record { line = line; code = X5 }) o ≡ Some f → ⊥
no_place None f x h = cc
no_place (Some line) f x h =
    let same : record { line = line; code = X5 } ≡ f = cc in
    let both : X5 ≡ X7 = ap (λ g. g.code) same ∙ x in
    cc

neither : (a b : Option TextFault) (f : TextFault) → (a ≡ Some f → ⊥) → (b ≡ Some f → ⊥) → or_else a b ≡ Some f → ⊥
neither None b f p q h = q h
neither (Some g) b f p q h = p h

no_declaration : (s : Declared) (d : Declaration) (f : TextFault) → f.code ≡ X7 → declaration_fault s d ≡ Some f → ⊥
unfolding declared_bucket_fault
no_declaration s (Tunable t) f x h = no_map_code _ _ f x h
no_declaration s (Device d) f x h = no_map_code _ _ f x h
no_declaration s (TypeName t) f x h = no_map_code _ _ f x h
no_declaration s (Bucket b) f x h = neither _ _ f (no_place _ f x) (no_map_code _ _ f x) h
no_declaration s (Rule r) f x h = no_map_code _ _ f x h

no_declarations : (s : Declared) (ds : List Declaration) (f : TextFault) → f.code ≡ X7 → fault_from s ds ≡ Some f → ⊥
unfolding fault_from
no_declarations s [] f x h = cc
no_declarations s (d ∷ ds) f x h = neither (declaration_fault s d) (fault_from (declare s d) ds) f (no_declaration s d f x) (no_declarations (declare s d) ds f x) h

-- ---- the form

no_word : (front : List Word) (w : Word) (code : TextCode) → HasCode front w code → code ≡ X7 → ⊥
no_word front w X1 h x = cc
no_word front w X2 h x = cc
no_word front w X3 h x = cc
no_word front w X4 h x = cc
no_word front w X5 h x = h
no_word front w X6 h x = cc
no_word front w X7 h x = h
no_word front w (Map code) h x = h

no_some : (o : Option Word) (P : Word → Type 0) → ((w : Word) → P w → ⊥) → IsSomeAnd o P → ⊥
no_some None P never h = h
no_some (Some w) P never h = never w h

no_form : (ws : List Word) (ds : List Declaration) (f : TextFault) → f.code ≡ X7 → Breaks ws ds f → ⊥
no_form ws ds f x (inl (i, leaves, at, front)) = no_some (slice_get ws i) _ (λ w h. no_word (take i ws) w f.code h.1 x) at
no_form ws ds f x (inr (front, whole, is, declares)) =
    let both : X1 ≡ X7 = ap (λ g. g.code) (sym is) ∙ x in
    cc

-- ---- texts

only_long : (input : List ℕ) (f : TextFault) → IsRefusedFor input f → f.code ≡ X7 → TEXT_LIMIT < length input
only_long input f (inl (long, is)) x = long
only_long input f (inr (short, inl h)) x =
    absurd (neither (declared_fault h.declarations) (last_fault (last_line 1 (words input)) (declared h.declarations)) f
    (no_declarations nothing_declared h.declarations f x) (no_map_code _ _ f x) h.first)
only_long input f (inr (short, inr h)) x =
    absurd (neither (declared_fault h.declarations) (Some h.at) f (no_declarations nothing_declared h.declarations f x)
    (λ e. let same : h.at ≡ f = cc in no_form (words input) h.declarations h.at (ap (λ g. g.code) same ∙ x) h.breaks) h.first)

always_long : (input : List ℕ) (f : TextFault) → IsRefusedFor input f → TEXT_LIMIT < length input → f.code ≡ X7
always_long input f (inl (also, is)) long = ap (λ g. g.code) is
always_long input f (inr (short, fault)) long = absurd (omega (arith, short, long))

pub exactly_long : (input : List ℕ) (f : TextFault) → IsRefusedFor input f → (f.code ≡ X7) ↔ (TEXT_LIMIT < length input)
exactly_long input f refused = (only_long input f refused, always_long input f refused)
