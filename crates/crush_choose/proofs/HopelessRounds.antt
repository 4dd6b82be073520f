-- Where no walk can end at an item that can be placed, choose indep places nothing more.
use Rattle.std.proofs.Common.{◌≡◌, ℕ, zero, suc, ◌+◌, ◌<◌, ◌≤◌, ◌&&◌, List, [], length, map, slice_index_or, true, false, not, nat_lt, Option, Some, None, option_map, inl, inr, refl, ap, sym, ◌∙◌, arith, if◌then◌else◌, get_or-set_other, get_or-set_same}
use Rattle.std.proofs.Math.ListN.{length-set}
use Rattle.std.proofs.lemmas.Bool.{cases_lt, cases_eq}
use Rattle.std.proofs.lemmas.Bool.Decides.{nat_tests}
use Rattle.std.proofs.lemmas.List.{get_or-map, length-map, ext_get_or, set_past}
use Rattle.std.proofs.lemmas.List.Folds.{Any-from_list_any}
use Rattle.std.specs.Ordering.{int_eq}
use Rattle.crush_map.specs.crush_types.specs.declared.ItemId.{ItemId}
use Rattle.crush_bucket.specs.Tables.{TablesView, bucket_numbered}
use Rattle.crush_choose.specs.declared.walk.WalkEnd.{WalkEnd}
use Rattle.crush_choose.specs.declared.walk.WalkEnd.TheVariants.{Empty, Wrong, Found}
use Rattle.crush_choose.specs.declared.indep.IndepCall.{IndepCall}
use Rattle.crush_choose.specs.declared.mark.Spot.{Spot}
use Rattle.crush_choose.specs.declared.mark.Mark.{Mark}
use Rattle.crush_choose.specs.declared.mark.Mark.TheVariants.{Skipped, Placed}
use Rattle.crush_choose.specs.Weights.{is_device_in}
use Rattle.crush_choose.specs.Reach.{reach, step}
use Rattle.crush_choose.specs.Least.{or_else}
use Rattle.crush_choose.specs.Marks.{Marks, Slot, placed_by, item_at, leaf_at}
use Rattle.crush_choose.specs.Firstn.{has, slot_has}
use Rattle.crush_choose.specs.Indep.{comes_before, earlier, is_of, taken, leaf_in, indep_leaf_by, indep_leaf, indep_leaf_of, indep_outcome, indep_try, after_try, in_round, after_rounds, indep}
use Rattle.crush_choose.specs.Private.Decisions.{placed_in, PlaceTheSame}
use Rattle.crush_choose.specs.Private.Reachable.{any_bucket, has_leaf, can_be_placed, can_have_leaf, leafy, can_choose, indep_can_place}
use Rattle.crush_choose.proofs.Least.{holds_from, least_silent, least_some, some_below_found}
use Rattle.crush_choose.proofs.Rounds.{at, Tries, PlaceAlike, IsOrderly, IsSettled, rounds_settle}
use Rattle.crush_choose.proofs.IndepTries.{indep_orderly}
use Rattle.crush_choose.proofs.WalkEnds.{PicksItems, fails_by, never_found}
use Rattle.crush_choose.proofs.Hopeless.{both_fail, unless, none_of, wants_leaf}

-- ---- the leaf of an item

no_leaf_in : (w : List ℕ) (x : ℕ) (item : ItemId) (o : Option ℕ) → (has_leaf w x any_bucket item o && not (has [] item)) ≡ false → is_device_in w x item ≡ false
no_leaf_in w x item None none = both_fail _ (has [] item) none refl
no_leaf_in w x item (Some k) none = cc

leaf_none : (w : List ℕ) (x : ℕ) (end : WalkEnd) → ((item : ItemId) (r : ℕ) → end ≡ Found item r → is_device_in w x item ≡ false) → leaf_in w x end ≡ None
leaf_none w x Empty none = refl
leaf_none w x Wrong none = refl
leaf_none w x (Found item r) none = none_of _ item (none item r refl)

no_leaf_by : PicksItems → (t : TablesView) (w : List ℕ) (c : IndepCall) (bucket start g : ℕ) → can_have_leaf t w c.x [] bucket ≡ false → indep_leaf_by t w c bucket start g ≡ None
unfolding indep_leaf_by
no_leaf_by picks t w c bucket start g none =
    leaf_none w c.x (reach t c.x (λ k. start + step t c.numrep g k) 0 bucket) (λ item s e.
    no_leaf_in w c.x item (bucket_numbered t item) (never_found picks t c.x (λ k. start + step t c.numrep g k) 0 (can_be_placed t w c.x [] any_bucket) bucket item s none e))

-- below a bucket that can have no leaf none is found
pub no_leaf : PicksItems → (t : TablesView) (w : List ℕ) (c : IndepCall) (bucket start : ℕ) → can_have_leaf t w c.x [] bucket ≡ false → indep_leaf t w c bucket start ≡ None
unfolding indep_leaf
no_leaf picks t w c bucket start none = least_silent _ c.leaf_tries (λ g lt. no_leaf_by picks t w c bucket start g none)

no_leaf_of : PicksItems → (t : TablesView) (w : List ℕ) (c : IndepCall) (pos : ℕ) (item : ItemId) (r : ℕ) (o : Option ℕ)
    → has_leaf w c.x (leafy t w c.x (nat_lt 0 c.leaf_tries) []) item o ≡ false → indep_leaf_of t w c pos item r o ≡ None
no_leaf_of picks t w c pos item r None none = none_of _ item none
no_leaf_of picks t w c pos item r (Some k) none =
    let (wanted, cannot) = wants_leaf c.leaf_tries (can_have_leaf t w c.x [] k) none in
    rw wanted (no_leaf picks t w c k (pos + r) cannot)

-- ---- what is taken

-- each item that is placed was placed in a round before round f
abbrev pub IsBefore : ℕ → Marks → Type 0
IsBefore f now = (q : ℕ) (s : Spot) → q < length now → at now q ≡ Some (Placed s) → s.round < f

-- a slot of the items that has an item is that of a position that got it
got : (item : ItemId) (m : Option Mark) → slot_has item (item_at m) ≡ true → (s : Spot) × (m ≡ Some (Placed s)) × (int_eq s.item.0 item.0 ≡ true)
got item None e = cc
got item (Some Skipped) e = cc
got item (Some (Placed s)) e = (s, refl, e)

sooner : (g q f pos : ℕ) → g < f → comes_before g q f pos ≡ true
sooner g q f pos lt = grind (arith, nat_tests)

taken_later : (now : Marks) (f g pos : ℕ) (item : ItemId) → IsBefore f now → f ≤ g → has (map item_at now) item ≡ true → taken now g pos item ≡ true
unfolding taken
taken_later now f g pos item before le e =
    let (q, slot, few, there, same) = Any-from_list_any (slot_has item) (map item_at now) e in
    let fits : q < length now = rw (length-map now item_at) at few in
    let slot_is : slice_index_or (map item_at now) q slot ≡ item_at (at now q) = get_or-map item_at now q None slot fits in
    let here : slot_has item (item_at (at now q)) ≡ true = rw (sym there ∙ slot_is) at same in
    let (s, is, equal) = got item (at now q) here in
    let first : comes_before s.round q g pos ≡ true = sooner s.round q g pos (let lt = before q s fits is in omega arith) in
    let hit : is_of item (earlier g pos q (at now q)) ≡ true = rw (is, first) equal in
    some_below_found (λ (p : ℕ). is_of item (earlier g pos p (at now p))) q (length now) fits hit

-- ---- a try

outcome_none : PicksItems → (t : TablesView) (w : List ℕ) (c : IndepCall) (now : Marks) (f g pos : ℕ) (end : WalkEnd) → IsBefore f now → f ≤ g
    → ((item : ItemId) (r : ℕ) → end ≡ Found item r → can_be_placed t w c.x (map item_at now) (leafy t w c.x (nat_lt 0 c.leaf_tries) []) item ≡ false)
    → placed_in (indep_outcome t w c now pos g end) ≡ None
outcome_none picks t w c now f g pos Empty before le none = refl
outcome_none picks t w c now f g pos Wrong before le none = refl
outcome_none picks t w c now f g pos (Found item r) before le none =
    ap placed_in (unless (taken now g pos item) (option_map (placed_by g item) (indep_leaf_of t w c pos item r (bucket_numbered t item))) (λ free.
    let new : has (map item_at now) item ≡ false = fails_by (has (map item_at now) item) (λ old. let bad : true ≡ false = sym (taken_later now f g pos item before le old) ∙ free in cc) in
    let leafless = both_fail _ (has (map item_at now) item) (none item r refl) new in
    ap (option_map (placed_by g item)) (no_leaf_of picks t w c pos item r (bucket_numbered t item) leafless)))

try_none : PicksItems → (t : TablesView) (w : List ℕ) (c : IndepCall) (now : Marks) (f g pos : ℕ) → IsBefore f now → f ≤ g
    → indep_can_place t w c (map item_at now) ≡ false → placed_in (indep_try t w c now pos g) ≡ None
unfolding indep_try can_choose
try_none picks t w c now f g pos before le none =
    outcome_none picks t w c now f g pos (reach t c.x (λ k. pos + step t c.numrep g k) c.wanted c.bucket) before le (λ item r e.
    never_found picks t c.x (λ k. pos + step t c.numrep g k) c.wanted (can_be_placed t w c.x (map item_at now) (leafy t w c.x (nat_lt 0 c.leaf_tries) [])) c.bucket item r none e)

-- ---- further rounds

place_same-itself : (a : Marks) → PlaceTheSame a a
place_same-itself a = record { long = refl; each = λ q. refl }

pub place_same : (a b : Marks) → a ≡ b → PlaceTheSame a b
place_same a b e = rw e (place_same-itself b)

-- what a mark places before a try, from what it places
abbrev seen : ℕ → ℕ → ℕ → Option Spot → Option Spot
seen f pos q None = None
seen f pos q (Some s) = if comes_before s.round q f pos then Some s else None

seen_is : (f pos q : ℕ) (m : Option Mark) → earlier f pos q m ≡ seen f pos q (placed_in m)
seen_is f pos q None = refl
seen_is f pos q (Some Skipped) = refl
seen_is f pos q (Some (Placed s)) = refl

alike_by : (a b : Marks) (f pos : ℕ) → PlaceTheSame a b → PlaceAlike f pos a b
alike_by a b f pos same = record {
  long = same.long;
  same = λ q. seen_is f pos q (at a q) ∙ (ap (seen f pos q) (same.each q) ∙ sym (seen_is f pos q (at b q)));
}

adds_none : (old new : Option Mark) → placed_in new ≡ None → placed_in (or_else old new) ≡ placed_in old
adds_none None new none = none
adds_none (Some mark) new none = refl

module _ (tries : Tries) (is : IsOrderly tries) (now : Marks) (f : ℕ) (hopeless : (g pos : ℕ) → f ≤ g → placed_in (tries now pos g) ≡ None) where
  still_none : (g pos : ℕ) (m : Marks) → f ≤ g → PlaceTheSame now m → placed_in (tries m pos g) ≡ None
  still_none g pos m le same = rw (← is.alike now m g pos (alike_by now m g pos same)) (hopeless g pos le)

  one_try : (g pos : ℕ) (m : Marks) → f ≤ g → PlaceTheSame now m → PlaceTheSame now (after_try tries g pos m)
  one_try g pos m le same = record {
    long = simp length-set same.long;
    each = λ q. elim (cases_lt pos (length m)) [
      | inl fits ↦ elim (cases_eq q pos) [
        | inl here ↦
            let put : at (after_try tries g pos m) pos ≡ or_else (at m pos) (tries m pos g) = get_or-set_same m pos _ None fits in
            rw (here, put) (same.each pos ∙ sym (adds_none (at m pos) (tries m pos g) (still_none g pos m le same)))
        | inr other ↦ same.each q ∙ ap placed_in (sym (get_or-set_other m pos q _ None other))
      ]
      | inr past ↦ same.each q ∙ ap (λ (ms : Marks). placed_in (at ms q)) (sym (set_past m pos _ past))
    ];
  }

  one_round : (g n : ℕ) (m : Marks) → f ≤ g → PlaceTheSame now m → PlaceTheSame now (in_round tries g n m)
  one_round g zero m le same = same
  one_round g (suc n) m le same = one_try g n _ le (one_round g n m le same)

  later_rounds : (n rounds : ℕ) → f ≤ rounds → now ≡ after_rounds tries n f → PlaceTheSame now (after_rounds tries n rounds)
  later_rounds n rounds le is_now =
      holds_from (λ k. PlaceTheSame now (after_rounds tries n k)) f rounds le (rw (← is_now) (place_same-itself now)) (λ k low same. one_round k n _ low same)

-- the marks after some rounds were placed in those rounds
settled_before : (tries : Tries) (is : IsOrderly tries) (n f : ℕ) (now : Marks) → now ≡ after_rounds tries n f → IsBefore f now
settled_before tries is n f now e q s fits placed =
    let settled : IsSettled tries n f now = rw e (rounds_settle tries is n f) in
    let lt : q < n = rw (← settled.long) fits in
    let (g, less, by, none) = least_some (tries now q) f (Placed s) (sym (settled.each q lt) ∙ placed) in
    let round : s.round ≡ g = is.numbered now g q s by in rw round less

-- the marks so far place what the answer does
pub ends_the_same : PicksItems → (t : TablesView) (w : List ℕ) (c : IndepCall) (f : ℕ) (now : Marks) → f ≤ c.tries → now ≡ after_rounds (indep_try t w c) c.n f
    → indep_can_place t w c (map item_at now) ≡ false → PlaceTheSame now (indep t w c)
unfolding indep
ends_the_same picks t w c f now le e none =
    let before = settled_before (indep_try t w c) (indep_orderly t w c) c.n f now e in
    later_rounds (indep_try t w c) (indep_orderly t w c) now f (λ g pos from. try_none picks t w c now f g pos before from none) c.n c.tries le e

-- ---- rows

item_by : (m : Option Mark) → item_at m ≡ option_map (λ (s : Spot). s.item) (placed_in m)
item_by None = refl
item_by (Some Skipped) = refl
item_by (Some (Placed s)) = refl

leaf_by : (m : Option Mark) → leaf_at m ≡ option_map (λ (s : Spot). s.leaf) (placed_in m)
leaf_by None = refl
leaf_by (Some Skipped) = refl
leaf_by (Some (Placed s)) = refl

same_row : (slot : Option Mark → Slot) (of : Spot → ItemId) (a b : Marks) → ((m : Option Mark) → slot m ≡ option_map of (placed_in m)) → PlaceTheSame a b → map slot a ≡ map slot b
same_row slot of a b by same =
    ext_get_or None (map slot a) (map slot b) (length-map a slot ∙ (same.long ∙ sym (length-map b slot))) (λ q few.
    let here : q < length a = rw (length-map a slot) at few in
    let there : q < length b = rw same.long at here in
    get_or-map slot a q None None here ∙ (by (at a q) ∙ (ap (option_map of) (same.each q) ∙ (sym (by (at b q)) ∙ sym (get_or-map slot b q None None there)))))

pub same_items : (a b : Marks) → PlaceTheSame a b → map item_at a ≡ map item_at b
same_items a b same = same_row item_at (λ s. s.item) a b item_by same

pub same_leaves : (a b : Marks) → PlaceTheSame a b → map leaf_at a ≡ map leaf_at b
same_leaves a b same = same_row leaf_at (λ s. s.leaf) a b leaf_by same
