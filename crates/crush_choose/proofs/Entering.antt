-- Exactly one list of entries is an answer: the entries of the answer's marks.
use Rattle.std.proofs.Common.{◌≡◌, ℕ, zero, suc, ◌+◌, ◌<◌, ◌≤◌, nat_lt, true, false, List, length, take, Option, Some, None, inl, inr, refl, ap, sym, ◌∙◌, arith}
use Rattle.std.proofs.lemmas.Bool.{cases_lt}
use Rattle.std.proofs.lemmas.Bool.Decides.{nat_tests}
use Rattle.std.proofs.lemmas.List.{length-map}
use Rattle.crush_bucket.specs.Tables.{TablesView, bucket_numbered}
use Rattle.crush_choose.specs.declared.walk.WalkEnd.{WalkEnd}
use Rattle.crush_choose.specs.declared.walk.WalkEnd.TheVariants.{Empty, Wrong, Found}
use Rattle.crush_choose.specs.declared.firstn.FirstnCall.{FirstnCall}
use Rattle.crush_choose.specs.declared.mark.Spot.{Spot}
use Rattle.crush_choose.specs.declared.mark.Mark.{Mark}
use Rattle.crush_choose.specs.declared.mark.Mark.TheVariants.{Skipped, Placed}
use Rattle.crush_choose.specs.Least.{least}
use Rattle.crush_choose.specs.Growing.{grown}
use Rattle.crush_choose.specs.Marks.{Marks, Slot, items_of, leaves_of}
use Rattle.crush_choose.specs.Firstn.{has, leaf_of, firstn_outcome, firstn_try, decided, mark_beside, mark_of, IsFirstnAnswer, firstn}
use Rattle.crush_choose.specs.Entries.{Entry, entry_items, entry_leaves, before, spot_of, IsLeastTry, IsDecided, tries_of, AreFirstnEntries, entries}
use Rattle.crush_choose.proofs.Least.{least_some, least_none, least_found, least_silent}
use Rattle.crush_choose.proofs.Growing.{length_grown}
use Rattle.crush_choose.proofs.IndepTries.{IsNumbered, placed_is, untaken_is}
use Rattle.crush_choose.proofs.Entries.{items_are, leaves_are, rises_of, before_more, all_before, placed_at, spot_entries, before_entries, entries_more, entries_low, are_entries, none_before}

-- ---- a try places with its own number

outcome_is : (t : TablesView) (w : List ℕ) (c : FirstnCall) (items leaves : List Slot) (f : ℕ) (end : WalkEnd) → IsNumbered f (firstn_outcome t w c items leaves f end)
outcome_is t w c items leaves f Empty s e = cc
outcome_is t w c items leaves f Wrong s e = cc
outcome_is t w c items leaves f (Found item r) s e =
    untaken_is f (has items item) _ (placed_is f item (leaf_of t w c leaves (length items) item r (bucket_numbered t item))) s e

try_is : (t : TablesView) (w : List ℕ) (c : FirstnCall) (items leaves : List Slot) (rep f : ℕ) → IsNumbered f (firstn_try t w c items leaves rep f)
unfolding firstn_try
try_is t w c items leaves rep f s e = outcome_is t w c items leaves f _ s e

-- ---- the outcome of a rep

least_at : (tries : ℕ → Option Mark) (n f : ℕ) (mark : Mark) → IsLeastTry tries n f mark → least tries n ≡ Some mark
least_at tries n f mark is =
    sym (least_found tries f n (Some mark) (least_silent tries f is.no_earlier) is.below (sym is.comes_to) refl)

-- the first try that doesn't fail places what is decided
decided_is : (tries : ℕ → Option Mark) (n : ℕ) (spot : Option Spot) → IsDecided tries n spot → spot ≡ placed_at (least tries n)
decided_is tries n (Some spot) is = rw (least_at tries n spot.round (Placed spot) is) refl
decided_is tries n None (inl (f, is)) = rw (least_at tries n f Skipped is) refl
decided_is tries n None (inr fail) = rw (least_silent tries n fail) refl

is_decided : (tries : ℕ → Option Mark) (n : ℕ) (mark : Option Mark) → ((f : ℕ) → IsNumbered f (tries f)) → least tries n ≡ mark → IsDecided tries n (placed_at mark)
is_decided tries n None numbered e = inr (least_none tries n e)
is_decided tries n (Some Skipped) numbered e =
    let is = least_some tries n Skipped e in inl (is.0, record { below = is.1; comes_to = is.2; no_earlier = is.3 })
is_decided tries n (Some (Placed s)) numbered e =
    let is = least_some tries n (Placed s) e in
    let round : s.round ≡ is.0 = numbered is.0 s is.2 in
    record {
      below = omega (arith, round, is.1);
      comes_to = ap tries round ∙ is.2;
      no_earlier = λ g lt. is.3 g (omega (arith, round));
    }

-- ---- from marks to entries

-- the mark of a rep, with room and without
mark_with_room : (t : TablesView) (w : List ℕ) (c : FirstnCall) (items leaves : List Slot) (rep : ℕ) → length items < c.room
    → mark_beside t w c items leaves rep ≡ least (firstn_try t w c items leaves rep) c.tries
unfolding decided
mark_with_room t w c items leaves rep lt = let room : nat_lt (length items) c.room ≡ true = grind (arith, nat_tests) in rw room refl

mark_without_room : (t : TablesView) (w : List ℕ) (c : FirstnCall) (items leaves : List Slot) (rep : ℕ) → c.room ≤ length items
    → mark_beside t w c items leaves rep ≡ None
mark_without_room t w c items leaves rep le = let room : nat_lt (length items) c.room ≡ false = grind (arith, nat_tests) in rw room refl

-- a rep of an answer, given the entries of smaller reps
module _ (t : TablesView) (w : List ℕ) (c : FirstnCall) (marks : Marks) (is : IsFirstnAnswer t w c marks) (rep : ℕ) (lt : rep < c.numrep) where
  smaller : before rep (entries marks) ≡ entries (take rep marks)
  smaller = before_entries 0 rep rep marks (omega arith)

  its_spot : spot_of rep (entries marks) ≡ placed_at (mark_of t w c (take rep marks) rep)
  its_spot = spot_entries 0 rep rep marks (omega arith) ∙ ap placed_at (is.each rep lt)

  items_beside : entry_items (before rep (entries marks)) ≡ items_of (take rep marks)
  items_beside = ap entry_items smaller ∙ sym (items_are 0 (take rep marks))

  leaves_beside : entry_leaves (before rep (entries marks)) ≡ leaves_of (take rep marks)
  leaves_beside = ap entry_leaves smaller ∙ sym (leaves_are 0 (take rep marks))

  how_many : length (before rep (entries marks)) ≡ length (items_of (take rep marks))
  how_many = sym (length-map (before rep (entries marks)) (λ (e : Entry). let slot : Slot = Some e.spot.item in slot)) ∙ ap length items_beside

  is_full : c.room ≤ length (before rep (entries marks)) → spot_of rep (entries marks) ≡ None
  is_full le =
      let full : c.room ≤ length (items_of (take rep marks)) = rw (← how_many) le in
      its_spot ∙ ap placed_at (mark_without_room t w c (items_of (take rep marks)) (leaves_of (take rep marks)) rep full)

  is_decided_there : length (before rep (entries marks)) < c.room → IsDecided (tries_of t w c (before rep (entries marks)) rep) c.tries (spot_of rep (entries marks))
  is_decided_there less =
      let room : length (items_of (take rep marks)) < c.room = rw (← how_many) less in
      let mark = mark_with_room t w c (items_of (take rep marks)) (leaves_of (take rep marks)) rep room in
      rw (items_beside, leaves_beside, its_spot)
      (is_decided (firstn_try t w c (items_of (take rep marks)) (leaves_of (take rep marks)) rep) c.tries (mark_of t w c (take rep marks) rep)
      (λ f. try_is t w c (items_of (take rep marks)) (leaves_of (take rep marks)) rep f) (sym mark))

pub are_firstn_entries : (t : TablesView) (w : List ℕ) (c : FirstnCall) (marks : Marks) → IsFirstnAnswer t w c marks → AreFirstnEntries t w c (entries marks)
are_firstn_entries t w c marks is = record {
  rising = (are_entries marks).rising;
  low = entries_low 0 c.numrep marks (let long : length marks ≡ c.numrep = is.one_each in omega arith);
  full = λ rep lt le. is_full t w c marks is rep lt le;
  decided = λ rep lt less. is_decided_there t w c marks is rep lt less;
}

-- ---- from entries to marks

module _ (t : TablesView) (w : List ℕ) (c : FirstnCall) (found : List Entry) (are : AreFirstnEntries t w c found) where
  -- the entry of a rep is what its mark places
  spot_is : (k : ℕ) → k < c.numrep → before k found ≡ entries (grown (mark_of t w c) k) → spot_of k found ≡ placed_at (mark_of t w c (grown (mark_of t w c) k) k)
  spot_is k lt same =
      let ms = grown (mark_of t w c) k in
      let items : entry_items (before k found) ≡ items_of ms = ap entry_items same ∙ sym (items_are 0 ms) in
      let leaves : entry_leaves (before k found) ≡ leaves_of ms = ap entry_leaves same ∙ sym (leaves_are 0 ms) in
      let many : length (before k found) ≡ length (items_of ms) = sym (length-map (before k found) (λ (e : Entry). let slot : Slot = Some e.spot.item in slot)) ∙ ap length items in
      elim (cases_lt (length (before k found)) c.room) [
        | inl less ↦
            let room : length (items_of ms) < c.room = rw (← many) less in
            let of_tries : spot_of k found ≡ placed_at (least (firstn_try t w c (items_of ms) (leaves_of ms) k) c.tries) =
            rw (items, leaves) at (decided_is (tries_of t w c (before k found) k) c.tries (spot_of k found) (are.decided k lt less)) in
            of_tries ∙ ap placed_at (sym (mark_with_room t w c (items_of ms) (leaves_of ms) k room))
        | inr le ↦
            let full : c.room ≤ length (items_of ms) = rw (← many) le in
            are.full k lt le ∙ ap placed_at (sym (mark_without_room t w c (items_of ms) (leaves_of ms) k full))
      ]

  follow : (k : ℕ) → k ≤ c.numrep → before k found ≡ entries (grown (mark_of t w c) k)
  follow zero le = none_before 0 0 found (rises_of found are.rising) (omega arith)
  follow (suc k) le =
      let so_far = follow k (omega arith) in
      let ms = grown (mark_of t w c) k in
      let spot = spot_is k (omega arith) so_far in
      let long : k ≡ 0 + length ms = omega (arith, length_grown (mark_of t w c) k) in
      before_more 0 k found (rises_of found are.rising)
      ∙ (rw (so_far, spot) refl ∙ sym (entries_more 0 k ms (mark_of t w c ms k) long))

  pub entries_are : found ≡ entries (firstn t w c)
  unfolding firstn
  entries_are = sym (all_before c.numrep found are.low) ∙ follow c.numrep (omega arith)
