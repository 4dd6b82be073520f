-- The first element of a name, when one more is declared.
use Rattle.std.proofs.Common.{◌≡◌, ◌∙◌, cond, Option, Some, None, List, [], ◌∷◌, ◌++◌, ℕ, sym, ap, option_map, find, bytes_eq}
use Rattle.std.specs.Option.{option_or}
use Rattle.std.proofs.lemmas.List.Folds.{find-append}
use Rattle.crush_text.specs.Private.Tables.{first_value}
use Rattle.crush_text.proofs.Named.{mapped}

-- an index of the elements has the further element where its name is new
pub one_more : {X V : Type 0} (name : X → List ℕ) (value : X → V) (xs : List X) (x : X) (get : List ℕ → Option V) → ((key : List ℕ) → get key ≡ option_map value (find (λ y. bytes_eq (name y) key) xs)) →
    (key : List ℕ) → first_value get (name x) (value x) key ≡ option_map value (find (λ y. bytes_eq (name y) key) (xs ++ x ∷ []))
one_more name value xs x get h key =
    ap (λ o. option_or o (cond (bytes_eq (name x) key) (Some (value x)) None)) (h key)
    ∙ (sym (mapped value (find (λ y. bytes_eq (name y) key) xs) (bytes_eq (name x) key) x)
    ∙ ap (option_map value) (sym (find-append (λ y. bytes_eq (name y) key) xs (x ∷ []))))
