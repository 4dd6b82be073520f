-- The items that a bucket can pick, as the code goes over them.
use Rattle.std.proofs.Common.{◌≡◌, ℕ, ◌&&◌, ◌||◌, cond, nat_lt, nat_le, Bool, true, false, List, [], ◌∷◌, refl, ap, sym, ◌∙◌, arith}
use Rattle.std.specs.List.{list_any, filter}
use Rattle.std.proofs.lemmas.Bool.Decides.{nat_tests}
use Rattle.crush_map.specs.crush_types.specs.declared.Kind.{Kind}
use Rattle.crush_bucket.specs.Bucket.{BucketView, WeightedItem}
use Rattle.crush_bucket.specs.Pickable.{weighs, picks_by_weight, without_weights, pickable_as, pickable}

-- an item weighs at least 1 where it weighs something
one_weighs : (n : ℕ) → nat_le 1 n ≡ nat_lt 0 n
one_weighs n = grind (arith, nat_tests)

any_filtered : (p : WeightedItem → Bool) (items : List WeightedItem) → list_any (λ e. nat_le 1 e.1.0 && p e) items ≡ list_any p (filter weighs items)
any_filtered p [] = refl
any_filtered p (e ∷ items) =
    rw (one_weighs e.1.0, any_filtered p items) (elim (weighs e) as (λ b. ((b && p e) || list_any p (filter weighs items)) ≡ list_any p (cond b (e ∷ filter weighs items) (filter weighs items))) [
      | true ↦ refl
      | false ↦ refl
    ])

by_weight : (kind : Kind) (items : List WeightedItem) → picks_by_weight kind items ≡ true → pickable_as kind items ≡ filter weighs items
by_weight kind items some = rw some refl

pub any_by_weight : (p : WeightedItem → Bool) (b : BucketView) → picks_by_weight b.kind b.items ≡ true → list_any (λ e. nat_le 1 e.1.0 && p e) b.items ≡ list_any p (pickable b)
any_by_weight p b some = any_filtered p b.items ∙ ap (λ (items : List WeightedItem). list_any p items) (sym (by_weight b.kind b.items some))

-- where it doesn't go by weights, each item weighs at least 0
none_weighs : (n : ℕ) → nat_le 0 n ≡ true
none_weighs n = grind (arith, nat_tests)

any_of_all : (p : WeightedItem → Bool) (items : List WeightedItem) → list_any (λ e. nat_le 0 e.1.0 && p e) items ≡ list_any p items
any_of_all p [] = refl
any_of_all p (e ∷ items) =
    ap (λ (b : Bool). (b && p e) || list_any (λ e. nat_le 0 e.1.0 && p e) items) (none_weighs e.1.0) ∙ ap (λ (b : Bool). p e || b) (any_of_all p items)

by_place : (kind : Kind) (items : List WeightedItem) → picks_by_weight kind items ≡ false → pickable_as kind items ≡ without_weights kind items
by_place kind items none = rw none refl

pub any_without_weights : (p : WeightedItem → Bool) (b : BucketView) → picks_by_weight b.kind b.items ≡ false → list_any (λ e. nat_le 0 e.1.0 && p e) (without_weights b.kind b.items) ≡ list_any p (pickable b)
any_without_weights p b none =
    any_of_all p (without_weights b.kind b.items) ∙ ap (λ (items : List WeightedItem). list_any p items) (sym (by_place b.kind b.items none))
