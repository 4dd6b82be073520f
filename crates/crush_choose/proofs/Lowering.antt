-- One call of a chooser stays where reweights fall of devices that it doesn't put out.
use Rattle.std.proofs.Common.{◌≡◌, ℕ, zero, suc, ◌+◌, ◌≤◌, ◌==◌, ◌&&◌, ◌||◌, ◌%◌, nat_lt, nat_le, ℤ, pos, negsuc, List, [], ◌∷◌, length, take, Bool, true, false, not, if◌then◌else◌, Option, Some, None, slice_index_or, refl, sym, ◌∙◌, arith}
use Rattle.std.specs.Bool.{then_some}
use Rattle.std.proofs.lemmas.Bool.Decides.{nat_tests}
use Rattle.crush_hash.specs.Hash.{hash2}
use Rattle.crush_map.specs.crush_types.specs.declared.ItemId.{ItemId}
use Rattle.crush_bucket.specs.Tables.{TablesView, bucket_numbered}
use Rattle.crush_choose.specs.declared.walk.WalkEnd.{WalkEnd}
use Rattle.crush_choose.specs.declared.walk.WalkEnd.TheVariants.{Empty, Wrong, Found}
use Rattle.crush_choose.specs.declared.firstn.FirstnCall.{FirstnCall}
use Rattle.crush_choose.specs.declared.indep.IndepCall.{IndepCall}
use Rattle.crush_choose.specs.declared.mark.Mark.{Mark}
use Rattle.crush_choose.specs.declared.mark.Mark.TheVariants.{Skipped, Placed}
use Rattle.crush_choose.specs.Weights.{weight_at, is_in, id_is_in, is_device_in}
use Rattle.crush_choose.specs.Reach.{reach, step}
use Rattle.crush_choose.specs.Least.{least}
use Rattle.crush_choose.specs.Marks.{Marks, Slot, placed_by, items_of, leaves_of}
use Rattle.crush_choose.specs.Firstn.{has, new_leaf, leaf_by, leaf_below, leaf_start, leaf_of, firstn_outcome, firstn_try, decided, mark_of, IsFirstnAnswer, firstn}
use Rattle.crush_choose.specs.Indep.{taken, leaf_in, indep_leaf_by, indep_leaf, indep_leaf_of, indep_outcome, indep_try, IsIndepAnswer, indep}
use Rattle.crush_choose.proofs.Keeping.{Keeps, keeps_itself, keeps_test, keeps_branch, keeps_map, keeps_least, keeps_same}
use Rattle.crush_choose.proofs.Answering.{firstn_is, firstn_only, indep_is, indep_only}

-- ---- the device test

-- no reweight is higher
abbrev pub IsLower : List ℕ → List ℕ → Type 0
IsLower w v = (device : ℕ) → weight_at v device ≤ weight_at w device

-- a draw against a reweight and a lower one
test_falls : (high low draw : ℕ) → low ≤ high → (nat_le 65536 high || (nat_lt 0 high && nat_lt draw high)) ≡ false
    → (nat_le 65536 low || (nat_lt 0 low && nat_lt draw low)) ≡ false
test_falls high low draw le out = grind (arith, nat_tests)

in_falls : (w v : List ℕ) (x device : ℕ) → IsLower w v → is_in w x device ≡ false → is_in v x device ≡ false
unfolding is_in
in_falls w v x device lower out = test_falls (weight_at w device) (weight_at v device) (hash2 x device % 65536) (lower device) out

-- a device that is out stays out
id_falls : (w v : List ℕ) (x : ℕ) (id : ℤ) → IsLower w v → id_is_in w x id ≡ false → id_is_in v x id ≡ false
id_falls w v x (pos device) lower out = in_falls w v x device lower out
id_falls w v x (negsuc n) lower out = refl

out_stays : (w v : List ℕ) (x : ℕ) (item : ItemId) → IsLower w v → is_device_in w x item ≡ false → is_device_in v x item ≡ false
out_stays w v x item lower out = id_falls w v x item.0 lower out

-- the item is as much in as before
abbrev pub Stays : List ℕ → List ℕ → ℕ → ItemId → Type 0
Stays w v x item = is_device_in v x item ≡ is_device_in w x item

-- what a mark puts out for its rep or position, its leaf or its item, stays in or out
abbrev pub MarkStays : List ℕ → List ℕ → ℕ → Bool → Mark → Type 0
MarkStays w v x leaf Skipped = Unit {0}
MarkStays w v x leaf (Placed s) = Stays w v x (if leaf then s.leaf else s.item)

-- a call puts out leaves, or else items that are their own leaves
abbrev pub PutsOut : Bool → ℕ → Type 0
PutsOut leaf leaf_tries = leaf ≡ false → leaf_tries ≡ 0

-- ---- firstn

both_fall : (a b c : Bool) → (a ≡ false → b ≡ false) → (a && c) ≡ false → (b && c) ≡ false
both_fall true true c falls e = e
both_fall true false c falls e = refl
both_fall false b c falls e = rw (falls refl) refl

new_leaf_keeps : (w v : List ℕ) (c : FirstnCall) (leaves : List Slot) (end : WalkEnd) → IsLower w v
    → Keeps (Stays w v c.x) (new_leaf w c leaves end) (new_leaf v c leaves end)
new_leaf_keeps w v c leaves Empty lower = keeps_itself (Stays w v c.x) None
new_leaf_keeps w v c leaves Wrong lower = keeps_itself (Stays w v c.x) None
new_leaf_keeps w v c leaves (Found item r) lower =
    keeps_test (Stays w v c.x) _ _ item (both_fall (is_device_in w c.x item) (is_device_in v c.x item) (not (has leaves item)) (out_stays w v c.x item lower))
    (λ stays passes. rw stays passes)

leaf_below_keeps : (t : TablesView) (w v : List ℕ) (c : FirstnCall) (leaves : List Slot) (bucket start : ℕ) → IsLower w v
    → Keeps (Stays w v c.x) (leaf_below t w c leaves bucket start) (leaf_below t v c leaves bucket start)
unfolding leaf_below leaf_by
leaf_below_keeps t w v c leaves bucket start lower =
    keeps_least (Stays w v c.x) _ _ c.leaf_tries (λ g. new_leaf_keeps w v c leaves (reach t c.x (λ b. start + g) 0 bucket) lower)

-- the test of a device that is its own leaf
device_keeps : (P : ItemId → Type 0) (w v : List ℕ) (x : ℕ) (item : ItemId) → IsLower w v → (P item → Stays w v x item)
    → Keeps P (then_some (is_device_in w x item) item) (then_some (is_device_in v x item) item)
device_keeps P w v x item lower stays = keeps_test P _ _ item (out_stays w v x item lower) (λ holds passes. rw (stays holds) passes)

leaf_of_keeps : (t : TablesView) (w v : List ℕ) (c : FirstnCall) (leaf : Bool) (leaves : List Slot) (count : ℕ) (item : ItemId) (r : ℕ) (bucket : Option ℕ)
    → IsLower w v → PutsOut leaf c.leaf_tries
    → Keeps (λ found. Stays w v c.x (if leaf then found else item)) (leaf_of t w c leaves count item r bucket) (leaf_of t v c leaves count item r bucket)
leaf_of_keeps t w v c true leaves count item r None lower out = device_keeps (Stays w v c.x) w v c.x item lower (λ holds. holds)
leaf_of_keeps t w v c false leaves count item r None lower out = device_keeps (λ found. Stays w v c.x item) w v c.x item lower (λ holds. holds)
leaf_of_keeps t w v c true leaves count item r (Some bucket) lower out =
    keeps_branch (Stays w v c.x) (c.leaf_tries == 0) (Some item) _ _ (leaf_below_keeps t w v c leaves bucket (leaf_start c count r) lower)
leaf_of_keeps t w v c false leaves count item r (Some bucket) lower out = rw (out refl) (keeps_itself (λ found. Stays w v c.x item) (Some item))

firstn_keeps : (t : TablesView) (w v : List ℕ) (c : FirstnCall) (leaf : Bool) (items leaves : List Slot) (f : ℕ) (end : WalkEnd) → IsLower w v → PutsOut leaf c.leaf_tries
    → Keeps (MarkStays w v c.x leaf) (firstn_outcome t w c items leaves f end) (firstn_outcome t v c items leaves f end)
firstn_keeps t w v c leaf items leaves f Empty lower out = keeps_itself (MarkStays w v c.x leaf) None
firstn_keeps t w v c leaf items leaves f Wrong lower out = keeps_itself (MarkStays w v c.x leaf) (Some Skipped)
firstn_keeps t w v c leaf items leaves f (Found item r) lower out =
    keeps_branch (MarkStays w v c.x leaf) (has items item) None _ _
    (keeps_map (MarkStays w v c.x leaf) (placed_by f item) _ _ (leaf_of_keeps t w v c leaf leaves (length items) item r (bucket_numbered t item) lower out))

decided_keeps : (t : TablesView) (w v : List ℕ) (c : FirstnCall) (leaf : Bool) (items leaves : List Slot) (rep : ℕ) → IsLower w v → PutsOut leaf c.leaf_tries
    → Keeps (MarkStays w v c.x leaf) (decided t w c items leaves rep) (decided t v c items leaves rep)
unfolding decided firstn_try
decided_keeps t w v c leaf items leaves rep lower out =
    keeps_least (MarkStays w v c.x leaf) _ _ c.tries (λ f. firstn_keeps t w v c leaf items leaves f (reach t c.x (λ b. rep + f) c.wanted c.bucket) lower out)

room_keeps : (P : Mark → Type 0) (b : Bool) (first second : Option Mark) → Keeps P first second → Keeps P (if b then first else None) (if b then second else None)
room_keeps P true first second keeps = keeps
room_keeps P false first second keeps = keeps_itself P None

mark_keeps : (t : TablesView) (w v : List ℕ) (c : FirstnCall) (leaf : Bool) (before : Marks) (rep : ℕ) → IsLower w v → PutsOut leaf c.leaf_tries
    → Keeps (MarkStays w v c.x leaf) (mark_of t w c before rep) (mark_of t v c before rep)
mark_keeps t w v c leaf before rep lower out =
    room_keeps (MarkStays w v c.x leaf) (nat_lt (length (items_of before)) c.room) _ _ (decided_keeps t w v c leaf (items_of before) (leaves_of before) rep lower out)

-- all marks stay
abbrev pub AllStay : List ℕ → List ℕ → ℕ → Bool → Marks → Type 0
AllStay w v x leaf [] = Unit {0}
AllStay w v x leaf (None ∷ marks) = AllStay w v x leaf marks
AllStay w v x leaf (Some mark ∷ marks) = MarkStays w v x leaf mark × AllStay w v x leaf marks

stay_at : (w v : List ℕ) (x : ℕ) (leaf : Bool) (marks : Marks) → AllStay w v x leaf marks → (k : ℕ) (mark : Mark) → slice_index_or marks k None ≡ Some mark
    → MarkStays w v x leaf mark
stay_at w v x leaf [] stay k mark e = absurd cc
stay_at w v x leaf (None ∷ marks) stay zero mark e = absurd cc
stay_at w v x leaf (None ∷ marks) stay (suc k) mark e = stay_at w v x leaf marks stay k mark e
stay_at w v x leaf (Some m ∷ marks) stay zero mark e = let same : m ≡ mark = cc in rw (← same) stay.0
stay_at w v x leaf (Some m ∷ marks) stay (suc k) mark e = stay_at w v x leaf marks stay.1 k mark e

-- the answer under the first reweights is one under the second
pub firstn_stays : (t : TablesView) (w v : List ℕ) (c : FirstnCall) (leaf : Bool) → IsLower w v → PutsOut leaf c.leaf_tries → AllStay w v c.x leaf (firstn t w c)
    → firstn t v c ≡ firstn t w c
firstn_stays t w v c leaf lower out stay =
    let is : IsFirstnAnswer t w c (firstn t w c) = firstn_is t w c in
    sym (firstn_only t v c (firstn t w c) (record {
      one_each = is.one_each;
      each = λ rep lt.
          let same : mark_of t v c (take rep (firstn t w c)) rep ≡ mark_of t w c (take rep (firstn t w c)) rep =
          keeps_same (MarkStays w v c.x leaf) _ _ (mark_keeps t w v c leaf (take rep (firstn t w c)) rep lower out)
          (λ mark e. stay_at w v c.x leaf (firstn t w c) stay rep mark (is.each rep lt ∙ e)) in
          is.each rep lt ∙ sym same;
    }))

-- ---- indep

leaf_in_keeps : (w v : List ℕ) (x : ℕ) (end : WalkEnd) → IsLower w v → Keeps (Stays w v x) (leaf_in w x end) (leaf_in v x end)
leaf_in_keeps w v x Empty lower = keeps_itself (Stays w v x) None
leaf_in_keeps w v x Wrong lower = keeps_itself (Stays w v x) None
leaf_in_keeps w v x (Found item r) lower = device_keeps (Stays w v x) w v x item lower (λ holds. holds)

indep_leaf_keeps : (t : TablesView) (w v : List ℕ) (c : IndepCall) (bucket start : ℕ) → IsLower w v
    → Keeps (Stays w v c.x) (indep_leaf t w c bucket start) (indep_leaf t v c bucket start)
unfolding indep_leaf indep_leaf_by
indep_leaf_keeps t w v c bucket start lower =
    keeps_least (Stays w v c.x) _ _ c.leaf_tries (λ g. leaf_in_keeps w v c.x (reach t c.x (λ k. start + step t c.numrep g k) 0 bucket) lower)

indep_leaf_of_keeps : (t : TablesView) (w v : List ℕ) (c : IndepCall) (leaf : Bool) (place : ℕ) (item : ItemId) (r : ℕ) (bucket : Option ℕ)
    → IsLower w v → PutsOut leaf c.leaf_tries
    → Keeps (λ found. Stays w v c.x (if leaf then found else item)) (indep_leaf_of t w c place item r bucket) (indep_leaf_of t v c place item r bucket)
indep_leaf_of_keeps t w v c true place item r None lower out = device_keeps (Stays w v c.x) w v c.x item lower (λ holds. holds)
indep_leaf_of_keeps t w v c false place item r None lower out = device_keeps (λ found. Stays w v c.x item) w v c.x item lower (λ holds. holds)
indep_leaf_of_keeps t w v c true place item r (Some bucket) lower out =
    keeps_branch (Stays w v c.x) (c.leaf_tries == 0) (Some item) _ _ (indep_leaf_keeps t w v c bucket (place + r) lower)
indep_leaf_of_keeps t w v c false place item r (Some bucket) lower out = rw (out refl) (keeps_itself (λ found. Stays w v c.x item) (Some item))

indep_keeps : (t : TablesView) (w v : List ℕ) (c : IndepCall) (leaf : Bool) (marks : Marks) (place f : ℕ) (end : WalkEnd) → IsLower w v → PutsOut leaf c.leaf_tries
    → Keeps (MarkStays w v c.x leaf) (indep_outcome t w c marks place f end) (indep_outcome t v c marks place f end)
indep_keeps t w v c leaf marks place f Empty lower out = keeps_itself (MarkStays w v c.x leaf) None
indep_keeps t w v c leaf marks place f Wrong lower out = keeps_itself (MarkStays w v c.x leaf) (Some Skipped)
indep_keeps t w v c leaf marks place f (Found item r) lower out =
    keeps_branch (MarkStays w v c.x leaf) (taken marks f place item) None _ _
    (keeps_map (MarkStays w v c.x leaf) (placed_by f item) _ _ (indep_leaf_of_keeps t w v c leaf place item r (bucket_numbered t item) lower out))

tries_keep : (t : TablesView) (w v : List ℕ) (c : IndepCall) (leaf : Bool) (marks : Marks) (place : ℕ) → IsLower w v → PutsOut leaf c.leaf_tries
    → Keeps (MarkStays w v c.x leaf) (least (indep_try t w c marks place) c.tries) (least (indep_try t v c marks place) c.tries)
unfolding indep_try
tries_keep t w v c leaf marks place lower out =
    keeps_least (MarkStays w v c.x leaf) _ _ c.tries (λ f. indep_keeps t w v c leaf marks place f (reach t c.x (λ k. place + step t c.numrep f k) c.wanted c.bucket) lower out)

pub indep_stays : (t : TablesView) (w v : List ℕ) (c : IndepCall) (leaf : Bool) → IsLower w v → PutsOut leaf c.leaf_tries → AllStay w v c.x leaf (indep t w c)
    → indep t v c ≡ indep t w c
indep_stays t w v c leaf lower out stay =
    let is : IsIndepAnswer t w c (indep t w c) = indep_is t w c in
    sym (indep_only t v c (indep t w c) (record {
      one_each = is.one_each;
      each = λ place lt.
          let same : least (indep_try t v c (indep t w c) place) c.tries ≡ least (indep_try t w c (indep t w c) place) c.tries =
          keeps_same (MarkStays w v c.x leaf) _ _ (tries_keep t w v c leaf (indep t w c) place lower out)
          (λ mark e. stay_at w v c.x leaf (indep t w c) stay place mark (is.each place lt ∙ e)) in
          is.each place lt ∙ sym same;
    }))
