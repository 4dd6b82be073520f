-- The line for a text, and how a check ends.
use Rattle.std.proofs.Common.{◌≡◌, ◌↔◌, ℕ, ◌<◌, List, [], ◌∷◌, ◌++◌, length, codes, decimal, refl, sym, ap, subst, ◌∙◌, inl, inr, arith, Bool, true, false, Option}
use Rattle.std.specs.Io.KnownBytes.{Appends}
use Rattle.crush_map.specs.Map.{Map}
use Rattle.crush_map.specs.declared.draft.Device.{Device}
use Rattle.crush_map.specs.declared.draft.Bucket.{Bucket}
use Rattle.crush_map.specs.declared.draft.Rule.{Rule}
use Rattle.crush_text.specs.crush_grammar.specs.declared.code.TextFault.{TextFault}
use Rattle.crush_text.specs.crush_grammar.specs.declared.code.TextCode.TheVariants.{X7}
use Rattle.crush_text.specs.crush_grammar.specs.Codes.{code_text}
use Rattle.crush_text.specs.MapText.{IsShort, IsTextOf, HasFirstFault, IsRefusedFor}
use Rattle.crush_text.specs.declared.limits.TheConstants.{TEXT_LIMIT}
use Rattle.tenant_service.specs.Input.{OfInput}
use Rattle.tenant_service.specs.Writing.{AppendsPart}
use Rattle.crush_app.specs.Check.{accepted_line, refused_line, IsLineFor}
use Rattle.crush_app.specs.Private.Verdict.{IsVerdict}
use Rattle.crush_app.proofs.Inputs.{of_input}
use Rattle.crush_app.proofs.LongTexts.{exactly_long}

-- ---- lines

pub accepted_is : (devices : List Device) (buckets : List Bucket) (rules : List Rule) (m : Map) → devices ≡ m.devices → buckets ≡ m.buckets → rules ≡ m.rules
    → codes "ok devices " ++ (decimal (length devices) ++ (codes " buckets " ++ (decimal (length buckets) ++ (codes " rules " ++ (decimal (length rules) ++ 10 ∷ []))))) ≡ accepted_line m
accepted_is devices buckets rules m same also too = rw (same, also, too) refl

pub refused_is : (code : List ℕ) (f : TextFault) → code ≡ code_text f.code → codes "refused line " ++ (decimal f.line ++ (codes " code " ++ (code ++ 10 ∷ []))) ≡ refused_line f
refused_is code f same = rw same refl

-- ---- long texts

pub long_line : (line : List ℕ) → line ≡ refused_line (record { line = 1; code = X7 }) → (text : List ℕ) → TEXT_LIMIT < length text → IsVerdict false text line
long_line line is text long = record { fault = record { line = 1; code = X7 }; refused = inl (long, refl); is = is }

-- ---- what is written, of what was read

accepted_says : (old new : Option (List ℕ)) (line : List ℕ) (accepted : Bool) → accepted ≡ true → Appends old new line
    → (input : List ℕ) → IsVerdict accepted input line → (m : Map) × IsShort input × IsTextOf input m × Appends old new (accepted_line m)
accepted_says old new line true same written input says = (says.map, says.short, says.text, rw says.is at written)
accepted_says old new line false same written input says = let both : false ≡ true = same in cc

pub accepted_end : (known old new : Option (List ℕ)) (line : List ℕ) (accepted : Bool) → accepted ≡ true → OfInput known (λ input. IsVerdict accepted input line) → Appends old new line
    → OfInput known (λ input. (m : Map) × IsShort input × IsTextOf input m × Appends old new (accepted_line m))
accepted_end known old new line accepted same read written = of_input known (accepted_says old new line accepted same written) read

refused_says : (old new : Option (List ℕ)) (line : List ℕ) (accepted : Bool) → accepted ≡ false → Appends old new line
    → (input : List ℕ) → IsVerdict accepted input line → (f : TextFault) × IsRefusedFor input f × ((f.code ≡ X7) ↔ (TEXT_LIMIT < length input)) × Appends old new (refused_line f)
refused_says old new line false same written input says = (says.fault, says.refused, exactly_long input says.fault says.refused, rw says.is at written)
refused_says old new line true same written input says = let both : true ≡ false = same in cc

pub refused_end : (known old new : Option (List ℕ)) (line : List ℕ) (accepted : Bool) → accepted ≡ false → OfInput known (λ input. IsVerdict accepted input line) → Appends old new line
    → OfInput known (λ input. (f : TextFault) × IsRefusedFor input f × ((f.code ≡ X7) ↔ (TEXT_LIMIT < length input)) × Appends old new (refused_line f))
refused_end known old new line accepted same read written = of_input known (refused_says old new line accepted same written) read

line_for : (accepted : Bool) (input line : List ℕ) → IsVerdict accepted input line → IsLineFor input line
line_for true input line says = inl says
line_for false input line says = inr says

pub cut_end : (known old new : Option (List ℕ)) (line : List ℕ) (accepted : Bool) → OfInput known (λ input. IsVerdict accepted input line) → AppendsPart old new line
    → OfInput known (λ input. (l : List ℕ) × IsLineFor input l × AppendsPart old new l)
cut_end known old new line accepted read part = of_input known (λ input says. (line, line_for accepted input line says, part)) read

-- ---- conversely, what was read says what is written

abbrev pub OneMap : Type 0
OneMap = (text : List ℕ) (m n : Map) → IsTextOf text m → IsTextOf text n → m ≡ n

abbrev pub NoFault : Type 0
NoFault = (text : List ℕ) (m : Map) (f : TextFault) → IsTextOf text m → ¬ (HasFirstFault text f)

not_refused : NoFault → (input : List ℕ) (m : Map) (f : TextFault) → IsShort input → IsTextOf input m → IsRefusedFor input f → ⊥
not_refused none input m f short says (inl (long, is)) = omega (arith, short, long)
not_refused none input m f short says (inr (also, fault)) = none input m f says fault

map_accepted_says : OneMap → {A : Type 0} (r : A) (old new : Option (List ℕ)) (line : List ℕ) (accepted : Bool) → accepted ≡ true → Appends old new line
    → (input : List ℕ) → IsVerdict accepted input line → (m : Map) → IsShort input → IsTextOf input m → (r ≡ r) × Appends old new (accepted_line m)
map_accepted_says one r old new line true same written input read =
    λ m short says. (refl, subst (λ l. Appends old new l) (read.is ∙ ap accepted_line (one input read.map m read.text says)) written)
map_accepted_says one r old new line false same written input read = let both : false ≡ true = same in cc

pub map_accepted : OneMap → {A : Type 0} (r : A) (known old new : Option (List ℕ)) (line : List ℕ) (accepted : Bool) → accepted ≡ true → OfInput known (λ input. IsVerdict accepted input line) → Appends old new line
    → OfInput known (λ input. (m : Map) → IsShort input → IsTextOf input m → (r ≡ r) × Appends old new (accepted_line m))
map_accepted one r known old new line accepted same read written = of_input known (map_accepted_says one r old new line accepted same written) read

map_refused_says : NoFault → {A : Type 0} (r s : A) (old new : Option (List ℕ)) (line : List ℕ) (accepted : Bool) → accepted ≡ false
    → (input : List ℕ) → IsVerdict accepted input line → (m : Map) → IsShort input → IsTextOf input m → (r ≡ s) × Appends old new (accepted_line m)
map_refused_says none r s old new line false same input read = λ m short says. absurd (not_refused none input m read.fault short says read.refused)
map_refused_says none r s old new line true same input read = let both : true ≡ false = same in cc

pub map_refused : NoFault → {A : Type 0} (r s : A) (known old new : Option (List ℕ)) (line : List ℕ) (accepted : Bool) → accepted ≡ false → OfInput known (λ input. IsVerdict accepted input line)
    → OfInput known (λ input. (m : Map) → IsShort input → IsTextOf input m → (r ≡ s) × Appends old new (accepted_line m))
map_refused none r s known old new line accepted same read = of_input known (map_refused_says none r s old new line accepted same) read

fault_accepted_says : NoFault → {A : Type 0} (r s : A) (old new : Option (List ℕ)) (line : List ℕ) (accepted : Bool) → accepted ≡ true
    → (input : List ℕ) → IsVerdict accepted input line → (f : TextFault) → IsRefusedFor input f → (r ≡ s) × Appends old new (refused_line f)
fault_accepted_says none r s old new line true same input read = λ f refused. absurd (not_refused none input read.map f read.short read.text refused)
fault_accepted_says none r s old new line false same input read = let both : false ≡ true = same in cc

pub fault_accepted : NoFault → {A : Type 0} (r s : A) (known old new : Option (List ℕ)) (line : List ℕ) (accepted : Bool) → accepted ≡ true → OfInput known (λ input. IsVerdict accepted input line)
    → OfInput known (λ input. (f : TextFault) → IsRefusedFor input f → (r ≡ s) × Appends old new (refused_line f))
fault_accepted none r s known old new line accepted same read = of_input known (fault_accepted_says none r s old new line accepted same) read

abbrev pub OneFault : Type 0
OneFault = (text : List ℕ) (f g : TextFault) → HasFirstFault text f → HasFirstFault text g → f ≡ g

one_refusal : OneFault → (input : List ℕ) (f g : TextFault) → IsRefusedFor input f → IsRefusedFor input g → f ≡ g
one_refusal one input f g (inl (long, is)) (inl (also, so)) = is ∙ sym so
one_refusal one input f g (inl (long, is)) (inr (short, fault)) = absurd (omega (arith, short, long))
one_refusal one input f g (inr (short, fault)) (inl (long, is)) = absurd (omega (arith, short, long))
one_refusal one input f g (inr (short, fault)) (inr (also, other)) = one input f g fault other

fault_refused_says : OneFault → {A : Type 0} (r : A) (old new : Option (List ℕ)) (line : List ℕ) (accepted : Bool) → accepted ≡ false → Appends old new line
    → (input : List ℕ) → IsVerdict accepted input line → (f : TextFault) → IsRefusedFor input f → (r ≡ r) × Appends old new (refused_line f)
fault_refused_says one r old new line false same written input read =
    λ f refused. (refl, subst (λ l. Appends old new l) (read.is ∙ ap refused_line (one_refusal one input read.fault f read.refused refused)) written)
fault_refused_says one r old new line true same written input read = let both : true ≡ false = same in cc

pub fault_refused : OneFault → {A : Type 0} (r : A) (known old new : Option (List ℕ)) (line : List ℕ) (accepted : Bool) → accepted ≡ false → OfInput known (λ input. IsVerdict accepted input line) → Appends old new line
    → OfInput known (λ input. (f : TextFault) → IsRefusedFor input f → (r ≡ r) × Appends old new (refused_line f))
fault_refused one r known old new line accepted same read written = of_input known (fault_refused_says one r old new line accepted same written) read
