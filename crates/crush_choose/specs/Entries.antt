-- The answer of choose firstn as a list of entries, in ascending order of rep.
--
-- An entry is a rep, a try, an item and a leaf. The condition here is on the entries alone; the
-- marks of `Firstn.antt` have the reps that were given up too.
use Rattle.std.specs.Prelude.{◌≡◌, ℕ, suc, ◌<◌, ◌≤◌, ◌==◌, nat_lt, List, [], ◌∷◌, length, map, slice_index_or, Option, Some, None, if◌then◌else◌, ◌⊎◌, All, Contains}
use Rattle.std.specs.List.{filter}
use Rattle.std.specs.List.Sorted.{IsStrictlyIncreasing}
use Rattle.crush_bucket.specs.Tables.{TablesView}
use Rattle.crush_choose.specs.declared.firstn.FirstnCall.{FirstnCall}
use Rattle.crush_choose.specs.declared.mark.Spot.{Spot}
use Rattle.crush_choose.specs.declared.mark.Mark.{Mark}
use Rattle.crush_choose.specs.declared.mark.Mark.TheVariants.{Skipped, Placed}
use Rattle.crush_choose.specs.Marks.{Marks, Slot, items_of, leaves_of}
use Rattle.crush_choose.specs.Firstn.{firstn_try}

-- a rep, and what is placed for it: its try, an item and a leaf
pub record Entry : Type 0 where
  pub rep : ℕ
  pub spot : Spot

abbrev pub entry_items : List Entry → List Slot
entry_items found = map (λ e. Some e.spot.item) found

abbrev pub entry_leaves : List Entry → List Slot
entry_leaves found = map (λ e. Some e.spot.leaf) found

-- the entries of smaller reps
abbrev pub before : ℕ → List Entry → List Entry
before rep found = filter (λ e. nat_lt e.rep rep) found

-- what is placed for a rep, if it has an entry
abbrev pub spot_of : ℕ → List Entry → Option Spot
spot_of rep [] = None
spot_of rep (e ∷ found) = if e.rep == rep then Some e.spot else spot_of rep found

-- ---- the answer

-- f is the first of the tries below n that doesn't fail, and this is its outcome
pub record IsLeastTry (tries : ℕ → Option Mark) (n f : ℕ) (mark : Mark) : Type 0 where
  pub below : f < n
  pub comes_to : tries f ≡ Some mark
  pub no_earlier : (g : ℕ) → g < f → tries g ≡ None

-- if there is an entry, the first try that doesn't fail is that of the entry and places it; if
-- there is none, the first try that doesn't fail ends at a wrong device, or all fail
abbrev pub IsDecided : (ℕ → Option Mark) → ℕ → Option Spot → Type 0
IsDecided tries n (Some spot) = IsLeastTry tries n spot.round (Placed spot)
IsDecided tries n None = ((f : ℕ) × IsLeastTry tries n f Skipped) ⊎ ((f : ℕ) → f < n → tries f ≡ None)

-- the tries of a rep, given the entries of smaller reps
abbrev pub tries_of : TablesView → List ℕ → FirstnCall → List Entry → ℕ → ℕ → Option Mark
tries_of t w c smaller rep = firstn_try t w c (entry_items smaller) (entry_leaves smaller) rep

-- the entries are an answer: their reps ascend and are below numrep; a rep has no entry if those of
-- smaller reps leave no room, and else what its tries, given those entries, decide
pub record AreFirstnEntries (t : TablesView) (w : List ℕ) (c : FirstnCall) (found : List Entry) : Type 0 where
  pub rising : IsStrictlyIncreasing (map (λ e. e.rep) found)
  pub low : All (λ e. e.rep < c.numrep) found
  pub full : (rep : ℕ) → rep < c.numrep → c.room ≤ length (before rep found) → spot_of rep found ≡ None
  pub decided : (rep : ℕ) → rep < c.numrep → length (before rep found) < c.room → IsDecided (tries_of t w c (before rep found) rep) c.tries (spot_of rep found)

-- ---- the entries of marks

-- the entries of marks, the first of which is the mark of this rep
abbrev pub entries_from : ℕ → Marks → List Entry
entries_from rep [] = []
entries_from rep (None ∷ marks) = entries_from (suc rep) marks
entries_from rep (Some Skipped ∷ marks) = entries_from (suc rep) marks
entries_from rep (Some (Placed spot) ∷ marks) = record { rep = rep; spot = spot } ∷ entries_from (suc rep) marks

abbrev pub entries : Marks → List Entry
entries marks = entries_from 0 marks

-- the entries are what the marks place, in ascending order of rep: each placed item has an entry,
-- and each entry is placed
pub record AreEntries (marks : Marks) (found : List Entry) : Type 0 where
  pub rising : IsStrictlyIncreasing (map (λ e. e.rep) found)
  pub there : (rep : ℕ) (spot : Spot) → slice_index_or marks rep None ≡ Some (Placed spot) → Contains found (record { rep = rep; spot = spot })
  pub placed : (rep : ℕ) (spot : Spot) → Contains found (record { rep = rep; spot = spot }) → slice_index_or marks rep None ≡ Some (Placed spot)
  pub items : items_of marks ≡ entry_items found
  pub leaves : leaves_of marks ≡ entry_leaves found
