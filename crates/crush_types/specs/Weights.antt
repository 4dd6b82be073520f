-- Weights of a bucket's items, in 16.16 fixed point.
use Rattle.std.specs.Prelude.{ℕ, ◌==◌, Bool, true, List, [], ◌∷◌, sum_by}
use Rattle.std.specs.List.{list_all}
use Rattle.crush_types.specs.declared.word.ItemId.{ItemId}
use Rattle.crush_types.specs.declared.word.Weight.{Weight}

-- the sum of the weights
abbrev pub total_weight : List (ItemId × Weight) → ℕ
total_weight items = sum_by (λ item. item.1.0) items

-- whether each weight is that of the first item
abbrev pub has_equal_weights : List (ItemId × Weight) → Bool
has_equal_weights [] = true
has_equal_weights (item ∷ items) = list_all (λ other. other.1.0 == item.1.0) items
