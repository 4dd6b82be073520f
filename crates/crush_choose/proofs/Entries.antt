-- The entries of marks.
use Rattle.std.proofs.Common.{◌≡◌, ℕ, zero, suc, ◌+◌, ◌<◌, ◌≤◌, ◌==◌, nat_lt, true, false, List, [], ◌∷◌, ◌++◌, length, map, take, slice_index, slice_index_or, Option, Some, None, ◌⊎◌, inl, inr, refl, ap, sym, ◌∙◌, arith, add-one}
use Rattle.std.proofs.lemmas.Bool.Decides.{nat_tests}
use Rattle.std.specs.List.{Contains, All}
use Rattle.std.specs.List.Sorted.{IsStrictlyIncreasing}
use Rattle.crush_choose.specs.declared.mark.Spot.{Spot}
use Rattle.crush_choose.specs.declared.mark.Mark.{Mark}
use Rattle.crush_choose.specs.declared.mark.Mark.TheVariants.{Skipped, Placed}
use Rattle.crush_choose.specs.Marks.{Marks, Slot, items_of, leaves_of}
use Rattle.crush_choose.specs.Entries.{Entry, entry_items, entry_leaves, before, spot_of, entries_from, entries, AreEntries}

abbrev reps : ℕ → Marks → List ℕ
reps rep marks = map (λ e. e.rep) (entries_from rep marks)

lowest : (rep : ℕ) (marks : Marks) (k : ℕ) → k < length (reps rep marks) → rep ≤ slice_index (reps rep marks) k
lowest rep [] k lt = absurd (omega arith)
lowest rep (None ∷ marks) k lt = let low = lowest (suc rep) marks k lt in omega arith
lowest rep (Some Skipped ∷ marks) k lt = let low = lowest (suc rep) marks k lt in omega arith
lowest rep (Some (Placed s) ∷ marks) zero lt = omega arith
lowest rep (Some (Placed s) ∷ marks) (suc k) lt = let low = lowest (suc rep) marks k (omega arith) in omega arith

cons_rises : (x : ℕ) (xs : List ℕ) → ((k : ℕ) → k < length xs → suc x ≤ slice_index xs k) → IsStrictlyIncreasing xs → IsStrictlyIncreasing (x ∷ xs)
cons_rises x xs low rest zero lt = low 0 (omega arith)
cons_rises x xs low rest (suc k) lt = rw add-one (rw add-one at (rest k (omega arith)))

rises : (rep : ℕ) (marks : Marks) → IsStrictlyIncreasing (reps rep marks)
rises rep [] = λ k lt. absurd (omega arith)
rises rep (None ∷ marks) = rises (suc rep) marks
rises rep (Some Skipped ∷ marks) = rises (suc rep) marks
rises rep (Some (Placed s) ∷ marks) = cons_rises rep (reps (suc rep) marks) (lowest (suc rep) marks) (rises (suc rep) marks)

there : (rep i n : ℕ) (marks : Marks) (spot : Spot) → n ≡ rep + i → slice_index_or marks i None ≡ Some (Placed spot)
    → Contains (entries_from rep marks) (record { rep = n; spot = spot })
there rep i n [] spot e is = cc
there rep zero n (None ∷ marks) spot e is = cc
there rep (suc i) n (None ∷ marks) spot e is = there (suc rep) i n marks spot (omega arith) is
there rep zero n (Some Skipped ∷ marks) spot e is = cc
there rep (suc i) n (Some Skipped ∷ marks) spot e is = there (suc rep) i n marks spot (omega arith) is
there rep zero n (Some (Placed s) ∷ marks) spot e is =
    let same : n ≡ rep = omega arith in
    let spots : s ≡ spot = cc in
    (0, omega arith, rw (same, spots) refl)
there rep (suc i) n (Some (Placed s) ∷ marks) spot e is =
    let w = there (suc rep) i n marks spot (omega arith) is in
    let lt : w.0 < length (entries_from (suc rep) marks) = w.1 in
    (suc w.0, omega arith, w.2)

pub items_are : (rep : ℕ) (marks : Marks) → items_of marks ≡ entry_items (entries_from rep marks)
items_are rep [] = refl
items_are rep (None ∷ marks) = items_are (suc rep) marks
items_are rep (Some Skipped ∷ marks) = items_are (suc rep) marks
items_are rep (Some (Placed s) ∷ marks) = ap (λ (xs : List Slot). Some s.item ∷ xs) (items_are (suc rep) marks)

pub leaves_are : (rep : ℕ) (marks : Marks) → leaves_of marks ≡ entry_leaves (entries_from rep marks)
leaves_are rep [] = refl
leaves_are rep (None ∷ marks) = leaves_are (suc rep) marks
leaves_are rep (Some Skipped ∷ marks) = leaves_are (suc rep) marks
leaves_are rep (Some (Placed s) ∷ marks) = ap (λ (xs : List Slot). Some s.leaf ∷ xs) (leaves_are (suc rep) marks)

-- ---- entries in ascending order of rep

-- the reps ascend, and the first is at least `low`
abbrev pub Rises : ℕ → List Entry → Type 0
Rises low [] = Unit {0}
Rises low (e ∷ found) = (low ≤ e.rep) × Rises (suc e.rep) found

rises_from : (low high : ℕ) (found : List Entry) → low ≤ high → Rises high found → Rises low found
rises_from low high [] le is = tt
rises_from low high (e ∷ found) le is = (let first : high ≤ e.rep = is.0 in omega arith, is.1)

entries_rise : (rep : ℕ) (marks : Marks) → Rises rep (entries_from rep marks)
entries_rise rep [] = tt
entries_rise rep (None ∷ marks) = rises_from rep (suc rep) (entries_from (suc rep) marks) (omega arith) (entries_rise (suc rep) marks)
entries_rise rep (Some Skipped ∷ marks) = rises_from rep (suc rep) (entries_from (suc rep) marks) (omega arith) (entries_rise (suc rep) marks)
entries_rise rep (Some (Placed s) ∷ marks) = (omega arith, entries_rise (suc rep) marks)

rest_increases : (x : ℕ) (xs : List ℕ) → IsStrictlyIncreasing (x ∷ xs) → IsStrictlyIncreasing xs
rest_increases x xs is = λ k lt. rw add-one (let next : slice_index (x ∷ xs) (suc k) < slice_index (x ∷ xs) (suc k + 1) = is (suc k) (omega arith) in rw add-one at next)

rises_behind : (low : ℕ) (e : Entry) (found : List Entry) → low ≤ e.rep → IsStrictlyIncreasing (map (λ e. e.rep) (e ∷ found)) → Rises low (e ∷ found)
rises_behind low e [] le is = (le, tt)
rises_behind low e (next ∷ found) le is =
    (le, rises_behind (suc e.rep) next found (is 0 (omega arith)) (rest_increases e.rep (map (λ e. e.rep) (next ∷ found)) is))

pub rises_of : (found : List Entry) → IsStrictlyIncreasing (map (λ e. e.rep) found) → Rises 0 found
rises_of [] is = tt
rises_of (e ∷ found) is = rises_behind 0 e found (omega arith) is

-- ---- the entries of smaller reps, and that of a rep

below : (rep k : ℕ) → rep < k → nat_lt rep k ≡ true
below rep k lt = grind (arith, nat_tests)

not_below : (rep k : ℕ) → k ≤ rep → nat_lt rep k ≡ false
not_below rep k le = grind (arith, nat_tests)

same : (rep k : ℕ) → rep ≡ k → (rep == k) ≡ true
same rep k e = grind (arith, nat_tests)

other : (rep k : ℕ) → (rep ≡ k → ⊥) → (rep == k) ≡ false
other rep k ne = grind (arith, nat_tests, ne)

pub none_before : (low k : ℕ) (found : List Entry) → Rises low found → k ≤ low → before k found ≡ []
none_before low k [] is le = refl
none_before low k (e ∷ found) is le =
    let first : low ≤ e.rep = is.0 in
    rw (not_below e.rep k (omega arith)) (none_before (suc e.rep) k found is.1 (omega arith))

none_at : (low k : ℕ) (found : List Entry) → Rises low found → k < low → spot_of k found ≡ None
none_at low k [] is lt = refl
none_at low k (e ∷ found) is lt =
    let first : low ≤ e.rep = is.0 in
    rw (other e.rep k (λ e. omega arith)) (none_at (suc e.rep) k found is.1 (omega arith))

-- the entry of a rep, if something is placed for it
abbrev pub one : ℕ → Option Spot → List Entry
one rep None = []
one rep (Some spot) = record { rep = rep; spot = spot } ∷ []

-- one more rep
pub before_more : (low k : ℕ) (found : List Entry) → Rises low found → before (suc k) found ≡ before k found ++ one k (spot_of k found)
before_more low k [] is = refl
before_more low k (e ∷ found) is =
    let either : (e.rep < k) ⊎ ((e.rep ≡ k) ⊎ (k < e.rep)) = grind arith in
    elim either [
      | inl lower ↦
          rw (below e.rep (suc k) (omega arith), below e.rep k lower, other e.rep k (λ e. omega arith)) (ap (λ (xs : List Entry). e ∷ xs) (before_more (suc e.rep) k found is.1))
      | inr (inl here) ↦
          rw (below e.rep (suc k) (omega arith), not_below e.rep k (omega arith), same e.rep k here, none_before (suc e.rep) (suc k) found is.1 (omega arith), none_before (suc e.rep) k found is.1 (omega arith))
          (ap (λ (n : ℕ). record { rep = n; spot = e.spot } ∷ []) here)
      | inr (inr higher) ↦
          rw (not_below e.rep (suc k) (omega arith), not_below e.rep k (omega arith), other e.rep k (λ e. omega arith), none_before (suc e.rep) (suc k) found is.1 (omega arith), none_before (suc e.rep) k found is.1 (omega arith), none_at (suc e.rep) k found is.1 (omega arith)) refl
    ]

-- all reps below n
pub all_before : (n : ℕ) (found : List Entry) → All (λ e. e.rep < n) found → before n found ≡ found
all_before n [] low = refl
all_before n (e ∷ found) low =
    let first : e.rep < n = low 0 e (omega arith) in
    rw (below e.rep n first) (ap (λ (xs : List Entry). e ∷ xs) (all_before n found (λ k d lt. low (suc k) d (omega arith))))

-- an entry of the list is the one that its rep has
at_least : (low : ℕ) (found : List Entry) (k : ℕ) (d : Entry) → Rises low found → k < length found → low ≤ (slice_index_or found k d).rep
at_least low [] k d is lt = absurd (omega arith)
at_least low (e ∷ found) zero d is lt = is.0
at_least low (e ∷ found) (suc k) d is lt =
    let first : low ≤ e.rep = is.0 in
    let rest = at_least (suc e.rep) found k d is.1 (omega arith) in omega (arith, rest)

spot_at : (low : ℕ) (found : List Entry) (k : ℕ) (d : Entry) → Rises low found → k < length found
    → spot_of (slice_index_or found k d).rep found ≡ Some (slice_index_or found k d).spot
spot_at low [] k d is lt = absurd (omega arith)
spot_at low (e ∷ found) zero d is lt = rw (same e.rep e.rep refl) refl
spot_at low (e ∷ found) (suc k) d is lt =
    let far = at_least (suc e.rep) found k d is.1 (omega arith) in
    rw (other e.rep (slice_index_or found k d).rep (λ e. omega (arith, far))) (spot_at (suc e.rep) found k d is.1 (omega arith))

-- ---- the entries of marks

-- what a mark places
abbrev pub placed_at : Option Mark → Option Spot
placed_at None = None
placed_at (Some Skipped) = None
placed_at (Some (Placed spot)) = Some spot

places : (mark : Option Mark) (spot : Spot) → placed_at mark ≡ Some spot → mark ≡ Some (Placed spot)
places None spot e = cc
places (Some Skipped) spot e = cc
places (Some (Placed s)) spot e = let is : s ≡ spot = cc in ap (λ (s : Spot). Some (Placed s)) is

pub spot_entries : (rep n i : ℕ) (marks : Marks) → n ≡ rep + i → spot_of n (entries_from rep marks) ≡ placed_at (slice_index_or marks i None)
spot_entries rep n i [] e = refl
spot_entries rep n zero (None ∷ marks) e = none_at (suc rep) n (entries_from (suc rep) marks) (entries_rise (suc rep) marks) (omega arith)
spot_entries rep n (suc i) (None ∷ marks) e = spot_entries (suc rep) n i marks (omega arith)
spot_entries rep n zero (Some Skipped ∷ marks) e = none_at (suc rep) n (entries_from (suc rep) marks) (entries_rise (suc rep) marks) (omega arith)
spot_entries rep n (suc i) (Some Skipped ∷ marks) e = spot_entries (suc rep) n i marks (omega arith)
spot_entries rep n zero (Some (Placed s) ∷ marks) e = rw (same rep n (omega arith)) refl
spot_entries rep n (suc i) (Some (Placed s) ∷ marks) e = rw (other rep n (λ h. omega arith)) (spot_entries (suc rep) n i marks (omega arith))

pub before_entries : (rep n i : ℕ) (marks : Marks) → n ≡ rep + i → before n (entries_from rep marks) ≡ entries_from rep (take i marks)
before_entries rep n zero marks e = none_before rep n (entries_from rep marks) (entries_rise rep marks) (omega arith)
before_entries rep n (suc i) [] e = refl
before_entries rep n (suc i) (None ∷ marks) e = before_entries (suc rep) n i marks (omega arith)
before_entries rep n (suc i) (Some Skipped ∷ marks) e = before_entries (suc rep) n i marks (omega arith)
before_entries rep n (suc i) (Some (Placed s) ∷ marks) e =
    rw (below rep n (omega arith)) (ap (λ (xs : List Entry). record { rep = rep; spot = s } ∷ xs) (before_entries (suc rep) n i marks (omega arith)))

-- one more mark
pub entries_more : (rep n : ℕ) (marks : Marks) (mark : Option Mark) → n ≡ rep + length marks
    → entries_from rep (marks ++ mark ∷ []) ≡ entries_from rep marks ++ one n (placed_at mark)
entries_more rep n [] None e = refl
entries_more rep n [] (Some Skipped) e = refl
entries_more rep n [] (Some (Placed s)) e = let is : n ≡ rep = omega arith in rw is refl
entries_more rep n (None ∷ marks) mark e = entries_more (suc rep) n marks mark (omega arith)
entries_more rep n (Some Skipped ∷ marks) mark e = entries_more (suc rep) n marks mark (omega arith)
entries_more rep n (Some (Placed s) ∷ marks) mark e =
    ap (λ (xs : List Entry). record { rep = rep; spot = s } ∷ xs) (entries_more (suc rep) n marks mark (omega arith))

-- reps of entries are those of marks
pub entries_low : (rep n : ℕ) (marks : Marks) → n ≡ rep + length marks → All (λ e. e.rep < n) (entries_from rep marks)
entries_low rep n [] e k d lt = absurd (omega arith)
entries_low rep n (None ∷ marks) e k d lt = entries_low (suc rep) n marks (omega arith) k d lt
entries_low rep n (Some Skipped ∷ marks) e k d lt = entries_low (suc rep) n marks (omega arith) k d lt
entries_low rep n (Some (Placed s) ∷ marks) e zero d lt = omega arith
entries_low rep n (Some (Placed s) ∷ marks) e (suc k) d lt = entries_low (suc rep) n marks (omega arith) k d (omega arith)

is_placed : (marks : Marks) (rep : ℕ) (spot : Spot) → Contains (entries marks) (record { rep = rep; spot = spot }) → slice_index_or marks rep None ≡ Some (Placed spot)
is_placed marks rep spot has =
    let it : Entry = record { rep = rep; spot = spot } in
    let found = spot_at 0 (entries marks) has.0 it (entries_rise 0 marks) has.1 in
    let here : spot_of rep (entries marks) ≡ Some spot = rw has.2 at found in
    places (slice_index_or marks rep None) spot (sym (spot_entries 0 rep rep marks (omega arith)) ∙ here)

pub are_entries : (marks : Marks) → AreEntries marks (entries marks)
are_entries marks = record {
  rising = rises 0 marks;
  there = λ rep spot is. there 0 rep rep marks spot (omega arith) is;
  placed = is_placed marks;
  items = items_are 0 marks;
  leaves = leaves_are 0 marks;
}
