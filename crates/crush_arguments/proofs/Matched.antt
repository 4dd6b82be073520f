-- What the getters of matches read is what the words say.
use Rattle.std.proofs.Common.{rules, refl, ap, sym, ◌≡◌, ◌∙◌, ℕ, List, Option, Some, None, Ok, option_map, option_and_then}
use Rattle.std.specs.Prelude.{Result, IfSome}
use Rattle.std.specs.Borrow.{Bor}
use Rattle.std.specs.Str.Parse.{ParsesUnsigned, digits_value, without_leading_plus}
use Rattle.clap.specs.Words.{Row, Text, ReadsOne, first_of, first_value, found_of, one_of, one_text, rows_of}
use Rattle.clap.specs.declared.parser.matches.Found.{Found}
use Rattle.clap.proofs.WalkLemmas.{first_value-rows, one_text-rows}
use Rattle.crush_arguments.specs.Asked.{number_of}

-- a text
pub text_said : (f : Found) (id : Text) (said : Option Text) → said ≡ first_value f id → said ≡ first_of id (rows_of f)
text_said f id said e = e ∙ first_value-rows f id

-- a number
number_read : {E : Type 0} (k : ℕ) (G : Text → Result ℕ E → Type 0) (only : (u : Text) (x : Result ℕ E) → G u x → ParsesUnsigned k 10 u x)
    (said : Option Text) (n : ℕ) → (said ≡ None → Some n ≡ None) → ((t : Text) → said ≡ Some t → ReadsOne G t (Some n))
    → Some n ≡ option_map (λ text. digits_value 10 (without_leading_plus text)) said
number_read k G only None n none value = none refl
number_read k G only (Some t) n none value = ap Some (only t (Ok n) (value t refl)).1

pub number_said : {E : Type 0} (k : ℕ) (G : Text → Result ℕ E → Type 0) (only : (u : Text) (x : Result ℕ E) → G u x → ParsesUnsigned k 10 u x)
    (f : Found) (id : Text) (n : ℕ) → (one_text f id ≡ None → Some n ≡ None) → ((t : Text) → one_text f id ≡ Some t → ReadsOne G t (Some n))
    → Some n ≡ number_of id (rows_of f)
number_said k G only f id n none value =
    number_read k G only (one_text f id) n none value ∙ ap (option_map (λ text. digits_value 10 (without_leading_plus text))) (one_text-rows f id)

pub each_said : {E : Type 0} (k : ℕ) (G : Text → Result ℕ E → Type 0) (only : (u : Text) (x : Result ℕ E) → G u x → ParsesUnsigned k 10 u x)
    (f : Found) (id : Text) (r : Option ℕ) → (one_text f id ≡ None → r ≡ None) → ((t : Text) → one_text f id ≡ Some t → ReadsOne G t r)
    → IfSome r (λ n. Some n ≡ number_of id (rows_of f))
each_said k G only f id None none value = search rules
each_said k G only f id (Some n) none value = number_said k G only f id n none value

-- a command, by its name and its matches
abbrev pair_of : {B : Type 0} → (B → Text) → (B → List Row) → B → Text × List Row
pair_of name_of rows_in b = (name_of b, rows_in b)

abbrev rows_part : Text × List Row → List Row
rows_part p = p.1

pub met : {B : Type 0} (name_of : B → Text) (rows_in : B → List Row) (o : Option B) (name : Text) (rows : List Row)
    → Some name ≡ option_map name_of o → Some rows ≡ option_map rows_part (option_map (pair_of name_of rows_in) o)
    → option_map (pair_of name_of rows_in) o ≡ Some (name, rows)
met name_of rows_in None name rows e f = search rules
met name_of rows_in (Some b) name rows e f = search rules
