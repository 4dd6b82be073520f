-- A try of choose indep depends only on what is placed before it, and places with its own number.
use Rattle.std.proofs.Common.{◌≡◌, ℕ, List, length, Bool, true, false, if◌then◌else◌, Option, Some, None, option_map, refl, ap, ◌∙◌}
use Rattle.crush_map.specs.crush_types.specs.declared.ItemId.{ItemId}
use Rattle.crush_bucket.specs.Tables.{TablesView, bucket_numbered}
use Rattle.crush_choose.specs.declared.walk.WalkEnd.{WalkEnd}
use Rattle.crush_choose.specs.declared.walk.WalkEnd.TheVariants.{Empty, Wrong, Found}
use Rattle.crush_choose.specs.declared.mark.Spot.{Spot}
use Rattle.crush_choose.specs.declared.mark.Mark.{Mark}
use Rattle.crush_choose.specs.declared.mark.Mark.TheVariants.{Placed}
use Rattle.crush_choose.specs.declared.indep.IndepCall.{IndepCall}
use Rattle.crush_choose.specs.Marks.{Marks, placed_by}
use Rattle.crush_choose.specs.Indep.{earlier, is_of, some_below, taken, indep_leaf_of, indep_outcome, indep_try}
use Rattle.crush_choose.proofs.Least.{some_below_same}
use Rattle.crush_choose.proofs.Rounds.{at, PlaceAlike, IsOrderly}

-- ---- what a try sees

taken_alike : (a b : Marks) (f pos : ℕ) (item : ItemId) → PlaceAlike f pos a b → taken a f pos item ≡ taken b f pos item
unfolding taken
taken_alike a b f pos item alike =
    some_below_same _ _ (length a) (λ q. ap (is_of item) (alike.same q))
    ∙ ap (some_below (λ (q : ℕ). is_of item (earlier f pos q (at b q)))) alike.long

weighed_alike : (t : TablesView) (w : List ℕ) (c : IndepCall) (a b : Marks) (f pos : ℕ) (end : WalkEnd) → PlaceAlike f pos a b
    → indep_outcome t w c a pos f end ≡ indep_outcome t w c b pos f end
weighed_alike t w c a b f pos Empty alike = refl
weighed_alike t w c a b f pos Wrong alike = refl
weighed_alike t w c a b f pos (Found item r) alike = rw (taken_alike a b f pos item alike) refl

-- ---- what a try places

-- what a mark places was placed by this try
abbrev pub IsNumbered : ℕ → Option Mark → Type 0
IsNumbered f mark = (s : Spot) → mark ≡ Some (Placed s) → s.round ≡ f

pub placed_is : (f : ℕ) (item : ItemId) (leaf : Option ItemId) → IsNumbered f (option_map (placed_by f item) leaf)
placed_is f item None s e = cc
placed_is f item (Some leaf) s e = let same : record { round = f; item = item; leaf = leaf } ≡ s = cc in rw (← same) refl

pub untaken_is : (f : ℕ) (taken : Bool) (mark : Option Mark) → IsNumbered f mark → IsNumbered f (if taken then None else mark)
untaken_is f true mark numbered s e = cc
untaken_is f false mark numbered s e = numbered s e

outcome_is : (t : TablesView) (w : List ℕ) (c : IndepCall) (marks : Marks) (f pos : ℕ) (end : WalkEnd) → IsNumbered f (indep_outcome t w c marks pos f end)
outcome_is t w c marks f pos Empty s e = cc
outcome_is t w c marks f pos Wrong s e = cc
outcome_is t w c marks f pos (Found item r) s e =
    untaken_is f (taken marks f pos item) _ (placed_is f item (indep_leaf_of t w c pos item r (bucket_numbered t item))) s e

pub indep_orderly : (t : TablesView) (w : List ℕ) (c : IndepCall) → IsOrderly (indep_try t w c)
unfolding indep_try
indep_orderly t w c = record {
  alike = λ a b f pos same. weighed_alike t w c a b f pos _ same;
  numbered = λ marks f pos. outcome_is t w c marks f pos _;
}
