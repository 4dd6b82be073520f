-- Texts of numbers, and of lists item by item.
use Rattle.std.proofs.Common.{◌≡◌, ℕ, ℤ, pos, negsuc, List, ◌++◌, Bool, true, refl, ap, ◌∙◌}
use Rattle.std.specs.Fmt.{signed_decimal}
use Rattle.std.proofs.lemmas.List.{append_assoc}
use Rattle.serde_json.specs.Data.{Data, Items, item}
use Rattle.serde_json.specs.Find.{of_integer}
use Rattle.serde_json.specs.Written.{comma_if, compact_text, items_text, number_text}

-- an integer is written with a sign exactly where it is below 0
pub item_digits : (z : ℤ) → signed_decimal z ≡ number_text (of_integer z)
item_digits (pos n) = refl
item_digits (negsuc n) = refl

-- an item added to the end of a text, and the rest of the list
pub item_more : (old : List ℕ) (later : Bool) (d : Data) (ds : Items) → (old ++ (comma_if later ++ compact_text d)) ++ items_text true ds ≡ old ++ items_text later (item d ds)
item_more old later d ds =
    append_assoc old (comma_if later ++ compact_text d) (items_text true ds)
    ∙ ap (λ (rest : List ℕ). old ++ rest) (append_assoc (comma_if later) (compact_text d) (items_text true ds))
