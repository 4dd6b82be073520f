-- What is decided where a call gives up because no try can succeed.
use Rattle.std.specs.Prelude.{◌≡◌, ℕ, false, List, length, slice_index_or, Option, None, Some}
use Rattle.crush_bucket.specs.Tables.{TablesView}
use Rattle.crush_choose.specs.declared.firstn.FirstnCall.{FirstnCall}
use Rattle.crush_choose.specs.declared.firstn.RepOutcome.{RepOutcome}
use Rattle.crush_choose.specs.declared.firstn.RepOutcome.TheVariants as decision
use Rattle.crush_choose.specs.declared.mark.Mark.{Mark}
use Rattle.crush_choose.specs.declared.mark.Mark.TheVariants.{Skipped, Placed}
use Rattle.crush_choose.specs.declared.mark.Spot.{Spot}
use Rattle.crush_choose.specs.Marks.{Marks, Slot}
use Rattle.crush_choose.specs.Private.Reachable.{firstn_can_place}

-- ---- firstn

-- the decision is the rep's mark, or that no try of any rep can place an item
abbrev pub IsDecision : TablesView → List ℕ → FirstnCall → List Slot → List Slot → Option Mark → RepOutcome → Type 0
IsDecision t w c items leaves mark (decision.Mark made) = made ≡ mark
IsDecision t w c items leaves mark decision.Hopeless = firstn_can_place t w c items leaves ≡ false

abbrev pub mark_in : RepOutcome → Option Mark
mark_in (decision.Mark made) = made
mark_in decision.Hopeless = None

-- ---- indep

-- what a mark places, if anything
abbrev pub placed_in : Option Mark → Option Spot
placed_in None = None
placed_in (Some Skipped) = None
placed_in (Some (Placed spot)) = Some spot

-- marks that place the same at each position
pub record PlaceTheSame (a b : Marks) : Type 0 where
  pub long : length a ≡ length b
  pub each : (pos : ℕ) → placed_in (slice_index_or a pos None) ≡ placed_in (slice_index_or b pos None)
