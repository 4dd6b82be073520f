-- Adding an entry to a table.
use Rattle.std.proofs.Common.{◌≡◌, ◌∙◌, ◌++◌, ◌∷◌, [], Bool, true, false, cond, ◌||◌, List, ℕ, refl, sym, ap}
use Rattle.std.specs.Str.{bytes_eq}
use Rattle.std.proofs.lemmas.List.Folds.{list_any-append}
use Rattle.crush_map.specs.Faults.{has_name}

either_way : (b s : Bool) → cond b true s ≡ (s || (b || false))
either_way true true = refl
either_way true false = refl
either_way false true = refl
either_way false false = refl

-- adding a name
pub has_name-more : (names : List (List ℕ)) (name other : List ℕ) (seen : Bool) → seen ≡ has_name names other → cond (bytes_eq name other) true seen ≡ has_name (names ++ name ∷ []) other
has_name-more names name other seen e = either_way (bytes_eq name other) seen ∙ (ap (λ s. s || (bytes_eq name other || false)) e ∙ sym (list_any-append (λ n. bytes_eq n other) names (name ∷ [])))
