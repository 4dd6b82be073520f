-- Where no walk can end at an item that can be placed, choose firstn places nothing more.
use Rattle.std.proofs.Common.{◌≡◌, ℕ, zero, suc, ◌+◌, ◌<◌, ◌≤◌, ◌&&◌, ◌||◌, ◌==◌, List, [], ◌∷◌, ◌++◌, length, map, Bool, true, false, not, nat_lt, Option, Some, None, option_map, refl, ap, sym, ◌∙◌, arith, append-nil, if◌then◌else◌}
use Rattle.std.specs.Bool.{then_some}
use Rattle.std.proofs.lemmas.Bool.Decides.{nat_tests}
use Rattle.crush_map.specs.crush_types.specs.declared.ItemId.{ItemId}
use Rattle.crush_bucket.specs.Tables.{TablesView, bucket_numbered}
use Rattle.crush_choose.specs.declared.walk.WalkEnd.{WalkEnd}
use Rattle.crush_choose.specs.declared.walk.WalkEnd.TheVariants.{Empty, Wrong, Found}
use Rattle.crush_choose.specs.declared.firstn.FirstnCall.{FirstnCall}
use Rattle.crush_choose.specs.declared.mark.Spot.{Spot}
use Rattle.crush_choose.specs.declared.mark.Mark.{Mark}
use Rattle.crush_choose.specs.declared.mark.Mark.TheVariants.{Skipped, Placed}
use Rattle.crush_choose.specs.Weights.{is_device_in}
use Rattle.crush_choose.specs.Reach.{reach}
use Rattle.crush_choose.specs.Least.{or_else, least}
use Rattle.crush_choose.specs.Growing.{grown}
use Rattle.crush_choose.specs.Marks.{Marks, Slot, placed_by, spots, items_of, leaves_of}
use Rattle.crush_choose.specs.Firstn.{has, new_leaf, leaf_by, leaf_start, leaf_below, leaf_of, firstn_outcome, firstn_try, decided, mark_beside, mark_of, firstn}
use Rattle.crush_choose.specs.Private.Decisions.{placed_in}
use Rattle.crush_choose.specs.Private.Reachable.{any_bucket, has_leaf, can_be_placed, can_have_leaf, leafy, can_choose, firstn_can_place}
use Rattle.crush_choose.proofs.Least.{holds_from, least_silent}
use Rattle.crush_choose.proofs.Placing.{slots, spots_append}
use Rattle.crush_choose.proofs.WalkEnds.{PicksItems, never_found}

-- ---- tests

-- of two tests that don't both pass, the first fails or the second
pub both_fail : (a b : Bool) → (a && not b) ≡ false → b ≡ false → a ≡ false
both_fail true true none e = cc
both_fail true false none e = cc
both_fail false b none e = refl

pub unless : {A : Type 0} (taken : Bool) (o : Option A) → (taken ≡ false → o ≡ None) → (if taken then None else o) ≡ None
unless true o h = refl
unless false o h = h refl

pub none_of : (passes : Bool) (item : ItemId) → passes ≡ false → then_some passes item ≡ None
none_of true item e = cc
none_of false item e = refl

pub neither : (result far can : Bool) → result ≡ (far || can) → result ≡ false → can ≡ false
neither result true can is fails = cc
neither result false can is fails = sym is ∙ fails

-- ---- the leaf of an item

pub both : (a b : Bool) → b ≡ false → (a && b) ≡ false
both true b none = none
both false b none = refl

no_new_leaf : (w : List ℕ) (c : FirstnCall) (leaves : List Slot) (item : ItemId) (o : Option ℕ)
    → (has_leaf w c.x any_bucket item o && not (has leaves item)) ≡ false → (is_device_in w c.x item && not (has leaves item)) ≡ false
no_new_leaf w c leaves item None none = none
no_new_leaf w c leaves item (Some k) none = both (is_device_in w c.x item) (not (has leaves item)) none

leaf_none : (w : List ℕ) (c : FirstnCall) (leaves : List Slot) (end : WalkEnd)
    → ((item : ItemId) (r : ℕ) → end ≡ Found item r → (is_device_in w c.x item && not (has leaves item)) ≡ false) → new_leaf w c leaves end ≡ None
leaf_none w c leaves Empty none = refl
leaf_none w c leaves Wrong none = refl
leaf_none w c leaves (Found item r) none = none_of _ item (none item r refl)

no_leaf_by : PicksItems → (t : TablesView) (w : List ℕ) (c : FirstnCall) (leaves : List Slot) (bucket r : ℕ) → can_have_leaf t w c.x leaves bucket ≡ false → leaf_by t w c leaves bucket r ≡ None
unfolding leaf_by
no_leaf_by picks t w c leaves bucket r none =
    leaf_none w c leaves (reach t c.x (λ b. r) 0 bucket) (λ item s e.
    no_new_leaf w c leaves item (bucket_numbered t item) (never_found picks t c.x (λ b. r) 0 (can_be_placed t w c.x leaves any_bucket) bucket item s none e))

-- below a bucket that can have no leaf none is found
pub no_leaf : PicksItems → (t : TablesView) (w : List ℕ) (c : FirstnCall) (leaves : List Slot) (bucket start : ℕ) → can_have_leaf t w c.x leaves bucket ≡ false → leaf_below t w c leaves bucket start ≡ None
unfolding leaf_below
no_leaf picks t w c leaves bucket start none = least_silent _ c.leaf_tries (λ g lt. no_leaf_by picks t w c leaves bucket (start + g) none)

-- where it counts whether a leaf is required, one is, and there is none
pub wants_leaf : (tries : ℕ) (can : Bool) → (if nat_lt 0 tries then can else true) ≡ false → ((tries == 0) ≡ false) × (can ≡ false)
wants_leaf zero can e = cc
wants_leaf (suc n) can e =
    let some : nat_lt 0 (suc n) ≡ true = grind (arith, nat_tests) in
    let more : (suc n == 0) ≡ false = grind (arith, nat_tests) in (more, rw some at e)

no_leaf_of : PicksItems → (t : TablesView) (w : List ℕ) (c : FirstnCall) (leaves : List Slot) (count : ℕ) (item : ItemId) (r : ℕ) (o : Option ℕ)
    → has_leaf w c.x (leafy t w c.x (nat_lt 0 c.leaf_tries) leaves) item o ≡ false → leaf_of t w c leaves count item r o ≡ None
no_leaf_of picks t w c leaves count item r None none = none_of _ item none
no_leaf_of picks t w c leaves count item r (Some k) none =
    let (wanted, cannot) = wants_leaf c.leaf_tries (can_have_leaf t w c.x leaves k) none in
    rw wanted (no_leaf picks t w c leaves k (leaf_start c count r) cannot)

-- ---- a try

outcome_none : PicksItems → (t : TablesView) (w : List ℕ) (c : FirstnCall) (items leaves : List Slot) (f : ℕ) (end : WalkEnd)
    → ((item : ItemId) (r : ℕ) → end ≡ Found item r → can_be_placed t w c.x items (leafy t w c.x (nat_lt 0 c.leaf_tries) leaves) item ≡ false)
    → placed_in (firstn_outcome t w c items leaves f end) ≡ None
outcome_none picks t w c items leaves f Empty none = refl
outcome_none picks t w c items leaves f Wrong none = refl
outcome_none picks t w c items leaves f (Found item r) none =
    ap placed_in (unless (has items item) (option_map (placed_by f item) (leaf_of t w c leaves (length items) item r (bucket_numbered t item))) (λ free.
    let leafless = both_fail _ (has items item) (none item r refl) free in
    ap (option_map (placed_by f item)) (no_leaf_of picks t w c leaves (length items) item r (bucket_numbered t item) leafless)))

try_none : PicksItems → (t : TablesView) (w : List ℕ) (c : FirstnCall) (items leaves : List Slot) (rep f : ℕ) → firstn_can_place t w c items leaves ≡ false
    → placed_in (firstn_try t w c items leaves rep f) ≡ None
unfolding firstn_try can_choose
try_none picks t w c items leaves rep f none =
    outcome_none picks t w c items leaves f (reach t c.x (λ b. rep + f) c.wanted c.bucket) (λ item r e.
    never_found picks t c.x (λ b. rep + f) c.wanted (can_be_placed t w c.x items (leafy t w c.x (nat_lt 0 c.leaf_tries) leaves)) c.bucket item r none e)

-- ---- a rep

pub or_none : (a b : Option Mark) → placed_in a ≡ None → placed_in b ≡ None → placed_in (or_else a b) ≡ None
or_none None b first second = second
or_none (Some mark) b first second = first

least_none : (tries : ℕ → Option Mark) (n : ℕ) → ((f : ℕ) → placed_in (tries f) ≡ None) → placed_in (least tries n) ≡ None
least_none tries zero none = refl
least_none tries (suc n) none = or_none (least tries n) (tries n) (least_none tries n none) (none n)

with_room : (room : Bool) (mark : Option Mark) → placed_in mark ≡ None → placed_in (if room then mark else None) ≡ None
with_room true mark none = none
with_room false mark none = refl

rep_none : PicksItems → (t : TablesView) (w : List ℕ) (c : FirstnCall) (items leaves : List Slot) (rep : ℕ) → firstn_can_place t w c items leaves ≡ false
    → placed_in (mark_beside t w c items leaves rep) ≡ None
unfolding decided
rep_none picks t w c items leaves rep none =
    with_room (nat_lt (length items) c.room) (decided t w c items leaves rep) (least_none (firstn_try t w c items leaves rep) c.tries (λ f. try_none picks t w c items leaves rep f none))

-- ---- all reps from one on

no_spot : (mark : Option Mark) → placed_in mark ≡ None → spots (mark ∷ []) ≡ []
no_spot None none = refl
no_spot (Some Skipped) none = refl
no_spot (Some (Placed spot)) none = cc

one_more_none : (marks : Marks) (mark : Option Mark) → placed_in mark ≡ None → spots (marks ++ mark ∷ []) ≡ spots marks
one_more_none marks mark none = spots_append marks (mark ∷ []) ∙ (ap (λ (more : List Spot). spots marks ++ more) (no_spot mark none) ∙ append-nil (spots marks))

-- given what the first reps placed, no later one places anything
nothing_more : PicksItems → (t : TablesView) (w : List ℕ) (c : FirstnCall) (rep n : ℕ) → rep ≤ n
    → firstn_can_place t w c (items_of (grown (mark_of t w c) rep)) (leaves_of (grown (mark_of t w c) rep)) ≡ false
    → spots (grown (mark_of t w c) n) ≡ spots (grown (mark_of t w c) rep)
nothing_more picks t w c rep n le none =
    holds_from (λ k. spots (grown (mark_of t w c) k) ≡ spots (grown (mark_of t w c) rep)) rep n le refl (λ k low same.
    let marks = grown (mark_of t w c) k in
    let still : firstn_can_place t w c (items_of marks) (leaves_of marks) ≡ false = rw same none in
    one_more_none marks (mark_of t w c marks k) (rep_none picks t w c (items_of marks) (leaves_of marks) k still) ∙ same)

-- the slots of the first reps are those of the answer
pub slots_end : PicksItems → (slot : Spot → Slot) (t : TablesView) (w : List ℕ) (c : FirstnCall) (rep : ℕ) (items leaves row : List Slot) → rep < c.numrep
    → items ≡ items_of (grown (mark_of t w c) rep) → leaves ≡ leaves_of (grown (mark_of t w c) rep) → firstn_can_place t w c items leaves ≡ false
    → row ≡ slots slot (grown (mark_of t w c) rep) → row ≡ slots slot (firstn t w c)
unfolding firstn
slots_end picks slot t w c rep items leaves row lt items_are leaves_are none row_is =
    let hopeless : firstn_can_place t w c (items_of (grown (mark_of t w c) rep)) (leaves_of (grown (mark_of t w c) rep)) ≡ false = rw (← items_are, ← leaves_are) none in
    row_is ∙ ap (λ (placed : List Spot). map slot placed) (sym (nothing_more picks t w c rep c.numrep (omega arith) hopeless))
