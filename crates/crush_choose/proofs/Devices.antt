-- What a walk for type 0 finds is a device, whose leaf is itself: chooseleaf firstn of devices is
-- choose firstn.
use Rattle.std.proofs.Common.{◌≡◌, ◌≢◌, ℕ, zero, suc, ◌+◌, ◌-◌, List, [], ◌∷◌, ◌++◌, length, Bool, true, false, nat_lt, ◌==◌, if◌then◌else◌, Option, Some, None, option_map, refl, ap, sym, ◌∙◌, arith}
use Rattle.std.specs.Bool.{then_some}
use Rattle.std.proofs.lemmas.Bool.Decides.{nat_tests}
use Rattle.crush_map.specs.crush_types.specs.declared.ItemId.{ItemId}
use Rattle.crush_bucket.specs.Tables.{TablesView, pick_at, type_at, size_at, bucket_numbered}
use Rattle.crush_choose.specs.declared.walk.WalkEnd.{WalkEnd}
use Rattle.crush_choose.specs.declared.walk.WalkEnd.TheVariants.{Empty, Wrong, Found}
use Rattle.crush_choose.specs.declared.firstn.FirstnCall.{FirstnCall}
use Rattle.crush_choose.specs.declared.mark.Mark.{Mark}
use Rattle.crush_choose.specs.Reach.{at_item, reach_below, reach}
use Rattle.crush_choose.specs.Growing.{grown}
use Rattle.crush_choose.specs.Least.{least, or_else}
use Rattle.crush_choose.specs.Weights.{is_device_in}
use Rattle.crush_choose.specs.Marks.{Marks, Slot, placed_by, items_of, leaves_of}
use Rattle.crush_choose.specs.Firstn.{has, leaf_of, firstn_outcome, firstn_try, decided, mark_of, firstn}
use Rattle.crush_choose.specs.Rules.{ChooseCall, firstn_call, put_out, bucket_out, slot_out, step_out}
use Rattle.crush_bucket.specs.Laws.{HasNoDeviceBucket}
use Rattle.crush_choose.proofs.Least.{least_same}
use Rattle.crush_choose.proofs.Placing.{slots_append}

-- if the walk found an item, it is a device
abbrev FindsDevice : TablesView → WalkEnd → Type 0
FindsDevice t o = (item : ItemId) (r : ℕ) → o ≡ Found item r → bucket_numbered t item ≡ None

either_finds : (t : TablesView) (b : Bool) (x y : WalkEnd) → FindsDevice t x → FindsDevice t y → FindsDevice t (if b then x else y)
either_finds t true x y hx hy = hx
either_finds t false x y hx hy = hy

empty_finds : (t : TablesView) → FindsDevice t Empty
empty_finds t item r e = cc

device_finds : (t : TablesView) (item : ItemId) (r : ℕ) → bucket_numbered t item ≡ None → FindsDevice t (Found item r)
device_finds t item r device other r' e = let same : item ≡ other = cc in rw (← same) device

item_finds : (t : TablesView) (down : ℕ → WalkEnd) (item : ItemId) (r : ℕ) (o : Option ℕ) → HasNoDeviceBucket t → bucket_numbered t item ≡ o
    → ((k : ℕ) → FindsDevice t (down k)) → FindsDevice t (at_item t 0 down item r o)
item_finds t down item r None typed is below = device_finds t item r is
item_finds t down item r (Some k) typed is below =
    let other : type_at t k ≢ 0 = typed item k is in
    let e : (type_at t k == 0) ≡ false = grind (arith, nat_tests, other) in
    rw e (below k)

below_finds : (t : TablesView) (x : ℕ) (rr : ℕ → ℕ) (n b : ℕ) → HasNoDeviceBucket t → FindsDevice t (reach_below t x rr 0 n b)
below_finds t x rr zero b typed = empty_finds t
below_finds t x rr (suc n) b typed =
    either_finds t (size_at t b == 0) Empty _ (empty_finds t)
    (item_finds t (reach_below t x rr 0 n) (pick_at t b x (rr b)) (rr b) (bucket_numbered t (pick_at t b x (rr b))) typed refl (λ k. below_finds t x rr n k typed))

reach_finds : (t : TablesView) (x : ℕ) (rr : ℕ → ℕ) (b : ℕ) → HasNoDeviceBucket t → FindsDevice t (reach t x rr 0 b)
unfolding reach
reach_finds t x rr b typed = below_finds t x rr (suc b) b typed

abbrev leafless_call : FirstnCall → FirstnCall
leafless_call c = record c { leaf_tries = 0 }

firstn_outcome-leafless : (t : TablesView) (w : List ℕ) (c : FirstnCall) (items leaves : List Slot) (f : ℕ) (o : WalkEnd) → FindsDevice t o
    → firstn_outcome t w c items leaves f o ≡ firstn_outcome t w (leafless_call c) items leaves f o
firstn_outcome-leafless t w c items leaves f Empty finds = refl
firstn_outcome-leafless t w c items leaves f Wrong finds = refl
firstn_outcome-leafless t w c items leaves f (Found item r) finds = rw (finds item r refl) refl

decided-leafless : (t : TablesView) (w : List ℕ) (c : FirstnCall) (items leaves : List Slot) (rep : ℕ) → HasNoDeviceBucket t → c.wanted ≡ 0
    → decided t w c items leaves rep ≡ decided t w (leafless_call c) items leaves rep
unfolding decided firstn_try
decided-leafless t w c items leaves rep typed e =
    least_same _ _ c.tries (λ f lt.
    firstn_outcome-leafless t w c items leaves f (reach t c.x (λ b. rep + f) c.wanted c.bucket) (rw e (reach_finds t c.x (λ b. rep + f) c.bucket typed)))

grown-leafless : (t : TablesView) (w : List ℕ) (c : FirstnCall) → HasNoDeviceBucket t → c.wanted ≡ 0 → (n : ℕ) → grown (mark_of t w c) n ≡ grown (mark_of t w (leafless_call c)) n
grown-leafless t w c typed e zero = refl
grown-leafless t w c typed e (suc n) =
    let before = grown-leafless t w c typed e n in
    let ms = grown (mark_of t w (leafless_call c)) n in
    let here : mark_of t w c ms n ≡ mark_of t w (leafless_call c) ms n =
    ap (λ (o : Option Mark). if nat_lt (length (items_of ms)) c.room then o else None) (decided-leafless t w c (items_of ms) (leaves_of ms) n typed e) in
    rw before (rw here refl)

pub leafless : (t : TablesView) (w : List ℕ) (c : FirstnCall) → HasNoDeviceBucket t → c.wanted ≡ 0 → firstn t w c ≡ firstn t w (leafless_call c)
unfolding firstn
leafless t w c typed e = grown-leafless t w c typed e c.numrep

-- ---- leaves if none is required

append_same : {a b d e : List Slot} → a ≡ b → d ≡ e → a ++ d ≡ b ++ e
append_same p q = rw (p, q) refl

-- a mark places an item as its own leaf
abbrev OwnsLeaf : Option Mark → Type 0
OwnsLeaf mark = leaves_of (mark ∷ []) ≡ items_of (mark ∷ [])

placed_owns : (f : ℕ) (item : ItemId) (leaf : Option ItemId) → ((l : ItemId) → leaf ≡ Some l → l ≡ item) → OwnsLeaf (option_map (placed_by f item) leaf)
placed_owns f item None own = refl
placed_owns f item (Some l) own = ap (λ (i : ItemId). let slot : Slot = Some i in slot ∷ []) (own l refl)

then_some_own : (b : Bool) (item l : ItemId) → then_some b item ≡ Some l → l ≡ item
then_some_own true item l e = cc
then_some_own false item l e = cc

leaf_owns : (t : TablesView) (w : List ℕ) (c : FirstnCall) (leaves : List Slot) (count : ℕ) (item : ItemId) (r : ℕ) (bucket : Option ℕ) (l : ItemId)
    → leaf_of t w (leafless_call c) leaves count item r bucket ≡ Some l → l ≡ item
leaf_owns t w c leaves count item r None l e = then_some_own (is_device_in w c.x item) item l e
leaf_owns t w c leaves count item r (Some bucket) l e = cc

either_owns : (b : Bool) (mark : Option Mark) → OwnsLeaf mark → OwnsLeaf (if b then None else mark)
either_owns true mark own = refl
either_owns false mark own = own

outcome_owns : (t : TablesView) (w : List ℕ) (c : FirstnCall) (items leaves : List Slot) (f : ℕ) (o : WalkEnd) → OwnsLeaf (firstn_outcome t w (leafless_call c) items leaves f o)
outcome_owns t w c items leaves f Empty = refl
outcome_owns t w c items leaves f Wrong = refl
outcome_owns t w c items leaves f (Found item r) =
    either_owns (has items item) _ (placed_owns f item (leaf_of t w (leafless_call c) leaves (length items) item r (bucket_numbered t item)) (λ l e.
    leaf_owns t w c leaves (length items) item r (bucket_numbered t item) l e))

or_else_owns : (a b : Option Mark) → OwnsLeaf a → OwnsLeaf b → OwnsLeaf (or_else a b)
or_else_owns None b own_a own_b = own_b
or_else_owns (Some a) b own_a own_b = own_a

least_owns : (tries : ℕ → Option Mark) (n : ℕ) → ((f : ℕ) → OwnsLeaf (tries f)) → OwnsLeaf (least tries n)
least_owns tries zero own = refl
least_owns tries (suc n) own = or_else_owns (least tries n) (tries n) (least_owns tries n own) (own n)

decided_owns : (t : TablesView) (w : List ℕ) (c : FirstnCall) (items leaves : List Slot) (rep : ℕ) → OwnsLeaf (decided t w (leafless_call c) items leaves rep)
unfolding decided firstn_try
decided_owns t w c items leaves rep =
    least_owns _ c.tries (λ f. outcome_owns t w c items leaves f (reach t c.x (λ b. rep + f) c.wanted c.bucket))

room_owns : (b : Bool) (mark : Option Mark) → OwnsLeaf mark → OwnsLeaf (if b then mark else None)
room_owns true mark own = own
room_owns false mark own = refl

grown_owns : (t : TablesView) (w : List ℕ) (c : FirstnCall) (n : ℕ) → leaves_of (grown (mark_of t w (leafless_call c)) n) ≡ items_of (grown (mark_of t w (leafless_call c)) n)
grown_owns t w c zero = refl
grown_owns t w c (suc n) =
    let next = mark_of t w (leafless_call c) in
    let ms = grown next n in
    let own = room_owns (nat_lt (length (items_of ms)) c.room) (decided t w (leafless_call c) (items_of ms) (leaves_of ms) n) (decided_owns t w c (items_of ms) (leaves_of ms) n) in
    slots_append (λ s. Some s.leaf) ms (next ms n ∷ []) ∙ (append_same (grown_owns t w c n) own ∙ sym (slots_append (λ s. Some s.item) ms (next ms n ∷ [])))

-- if no leaf is required, the leaves are the items
firstn_owns : (t : TablesView) (w : List ℕ) (c : FirstnCall) → leaves_of (firstn t w (leafless_call c)) ≡ items_of (firstn t w (leafless_call c))
unfolding firstn
firstn_owns t w c = grown_owns t w c c.numrep

-- ---- a choose step

-- a choose firstn step for devices, with this number of tries for a leaf
abbrev for_devices : ChooseCall → ℕ → ChooseCall
for_devices c leaf_tries = record c { firstn = true; wanted = 0; leaf_tries = leaf_tries }

abbrev with_leaves : ChooseCall → Bool → ChooseCall
with_leaves c leaf = record c { leaf = leaf }

none_or : (b : Bool) (x y : List Slot) → x ≡ y → (let none : List Slot = [] in (if b then none else x) ≡ (if b then none else y))
none_or true x y e = refl
none_or false x y e = e

module _ (t : TablesView) (w : List ℕ) (typed : HasNoDeviceBucket t) (c : ChooseCall) (n : ℕ) where
  put_same : (room bucket : ℕ) → put_out t w (with_leaves (for_devices c n) true) room bucket ≡ put_out t w (with_leaves (for_devices c 0) false) room bucket
  unfolding put_out
  put_same room bucket =
      let call = firstn_call (with_leaves (for_devices c n) true) room bucket in
      none_or (c.numrep == 0) (leaves_of (firstn t w call)) (items_of (firstn t w (leafless_call call)))
      (ap (λ (ms : Marks). leaves_of ms) (leafless t w call typed refl) ∙ firstn_owns t w call)

  bucket_same : (room : ℕ) (bucket : Option ℕ) → bucket_out t w (with_leaves (for_devices c n) true) room bucket ≡ bucket_out t w (with_leaves (for_devices c 0) false) room bucket
  bucket_same room None = refl
  bucket_same room (Some bucket) = put_same room bucket

  slot_same : (room : ℕ) (slot : Slot) → slot_out t w (with_leaves (for_devices c n) true) room slot ≡ slot_out t w (with_leaves (for_devices c 0) false) room slot
  slot_same room None = refl
  slot_same room (Some item) = bucket_same room (bucket_numbered t item)

  pub step_same : (room : ℕ) (slots : List Slot) → step_out t w (with_leaves (for_devices c n) true) room slots ≡ step_out t w (with_leaves (for_devices c 0) false) room slots
  step_same room [] = refl
  step_same room (slot ∷ slots) =
      let out = slot_out t w (with_leaves (for_devices c 0) false) room slot in
      rw (slot_same room slot) (ap (λ (rest : List Slot). out ++ rest) (step_same (room - length out) slots))
