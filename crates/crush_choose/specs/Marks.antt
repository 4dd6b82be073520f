-- The outcome for each rep of choose firstn or each position of choose indep.
--
-- An answer is a list of marks, one for each rep or position: an item with its try and leaf, or
-- given up, or none.
use Rattle.std.specs.Prelude.{ℕ, List, [], ◌∷◌, map, Option, Some, None}
use Rattle.crush_map.specs.crush_types.specs.declared.ItemId.{ItemId}
use Rattle.crush_choose.specs.declared.mark.Spot.{Spot}
use Rattle.crush_choose.specs.declared.mark.Mark.{Mark}
use Rattle.crush_choose.specs.declared.mark.Mark.TheVariants.{Skipped, Placed}

abbrev pub Marks : Type 0
Marks = List (Option Mark)

-- an item, or none
abbrev pub Slot : Type 0
Slot = Option ItemId

-- the mark of a try that places an item and its leaf
abbrev pub placed_by : ℕ → ItemId → ItemId → Mark
placed_by round item leaf = Placed (record { round = round; item = item; leaf = leaf })

-- what the marks place, in order
abbrev pub spots : Marks → List Spot
spots [] = []
spots (None ∷ marks) = spots marks
spots (Some Skipped ∷ marks) = spots marks
spots (Some (Placed spot) ∷ marks) = spot ∷ spots marks

-- the items that marks place, without gaps
abbrev pub items_of : Marks → List Slot
items_of marks = map (λ s. Some s.item) (spots marks)

-- their leaves
abbrev pub leaves_of : Marks → List Slot
leaves_of marks = map (λ s. Some s.leaf) (spots marks)

-- the item at a position, if one is placed there
abbrev pub item_at : Option Mark → Slot
item_at None = None
item_at (Some Skipped) = None
item_at (Some (Placed spot)) = Some spot.item

-- its leaf
abbrev pub leaf_at : Option Mark → Slot
leaf_at None = None
leaf_at (Some Skipped) = None
leaf_at (Some (Placed spot)) = Some spot.leaf
