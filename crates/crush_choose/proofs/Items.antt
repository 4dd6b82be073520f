-- What holds of each pick of the buckets and of each item that is taken holds of each item of a
-- rule's answer, and what holds of each pick of each device of its trace.
use Rattle.std.proofs.Common.{◌≡◌, ℕ, ℤ, pos, negsuc, zero, suc, ◌+◌, ◌<◌, ◌-◌, ◌==◌, ◌&&◌, nat_lt, List, [], ◌∷◌, length, map, take, Bool, true, false, not, if◌then◌else◌, Option, Some, None, option_map, slice_index_or, IfSome, refl, arith}
use Rattle.std.specs.Bool.{then_some}
use Rattle.std.specs.List.{All}
use Rattle.std.proofs.lemmas.Bool.Decides.{nat_tests}
use Rattle.std.proofs.lemmas.List.Elements.{All-nil, All-cons, All-head, All-tail, All-append, All-push, All-set, All-take, All-replicate, All-map, All-weaker}
use Rattle.crush_map.specs.crush_types.specs.declared.ItemId.{ItemId}
use Rattle.crush_map.specs.declared.draft.Step.{Step}
use Rattle.crush_map.specs.declared.draft.Step.TheVariants.{Take, SetChooseTries, SetLeafTries, SetVaryR, SetStable, Choose, Emit}
use Rattle.crush_bucket.specs.Tables.{TablesView, pick_at, type_at, size_at, bucket_numbered}
use Rattle.crush_choose.specs.declared.walk.WalkEnd.{WalkEnd}
use Rattle.crush_choose.specs.declared.walk.WalkEnd.TheVariants.{Empty, Wrong, Found}
use Rattle.crush_choose.specs.declared.firstn.FirstnCall.{FirstnCall}
use Rattle.crush_choose.specs.declared.indep.IndepCall.{IndepCall}
use Rattle.crush_choose.specs.declared.mark.Mark.{Mark}
use Rattle.crush_choose.specs.declared.mark.Mark.TheVariants.{Skipped, Placed}
use Rattle.crush_choose.specs.Growing.{grown}
use Rattle.crush_choose.specs.Least.{least, or_else}
use Rattle.crush_choose.specs.Trace.{with_number, ascending, rule_trace}
use Rattle.crush_choose.specs.Reach.{at_item, reach_below, reach, step}
use Rattle.crush_choose.specs.Weights.{is_device_in}
use Rattle.crush_choose.specs.Marks.{Marks, Slot, placed_by, items_of, leaves_of, item_at, leaf_at}
use Rattle.crush_choose.specs.Firstn.{has, new_leaf, leaf_by, leaf_below, leaf_start, leaf_of, firstn_outcome, firstn_try, decided, mark_of, firstn}
use Rattle.crush_choose.specs.Indep.{taken, leaf_in, indep_leaf_by, indep_leaf, indep_leaf_of, indep_outcome, indep_try, in_round, after_rounds, indep}
use Rattle.crush_choose.specs.Rules.{ChooseCall, devices_before, devices_of, firstn_call, indep_call, put_out, bucket_out, slot_out, step_out, choose_call, Running, with_settings, start, after_step, after_steps, after_rule, rule_answer}

-- ---- options

-- a branch has what both sides have
either_is : {A : Type 0} (Q : A → Type 0) (b : Bool) (x y : A) → Q x → Q y → Q (if b then x else y)
either_is Q true x y hx hy = hx
either_is Q false x y hx hy = hy

then_some_is : {A : Type 0} (Q : A → Type 0) (b : Bool) (a : A) → Q a → IfSome (then_some b a) Q
then_some_is Q true a is = is
then_some_is Q false a is = tt

or_else_is : {A : Type 0} (Q : A → Type 0) (first second : Option A) → IfSome first Q → IfSome second Q → IfSome (or_else first second) Q
or_else_is Q None second one two = two
or_else_is Q (Some a) second one two = one

-- the first success has what each success has
least_is : {A : Type 0} (Q : A → Type 0) (tries : ℕ → Option A) (n : ℕ) → ((f : ℕ) → IfSome (tries f) Q) → IfSome (least tries n) Q
least_is Q tries zero each = tt
least_is Q tries (suc n) each = or_else_is Q (least tries n) (tries n) (least_is Q tries n each) (each n)

-- ---- marks

-- the item has the property, if the walk found one
abbrev IsFound : (ItemId → Type 0) → WalkEnd → Type 0
IsFound P Empty = Unit {0}
IsFound P Wrong = Unit {0}
IsFound P (Found item r) = P item

-- what the mark places, the item and its leaf, has it
abbrev MarkIs : (ItemId → Type 0) → Mark → Type 0
MarkIs P Skipped = Unit {0}
MarkIs P (Placed spot) = P spot.item × P spot.leaf

abbrev SlotIs : (ItemId → Type 0) → Slot → Type 0
SlotIs P slot = IfSome slot P

abbrev pub AreSlots : (ItemId → Type 0) → List Slot → Type 0
AreSlots P slots = All (SlotIs P) slots

abbrev AreMarks : (ItemId → Type 0) → Marks → Type 0
AreMarks P marks = All (λ mark. IfSome mark (MarkIs P)) marks

placed_is : (P : ItemId → Type 0) (f : ℕ) (item : ItemId) (leaf : Option ItemId) → P item → IfSome leaf P → IfSome (option_map (placed_by f item) leaf) (MarkIs P)
placed_is P f item None is found = tt
placed_is P f item (Some leaf) is found = (is, found)

-- no mark has it, and a mark has it where each try has
none_or_is : (P : ItemId → Type 0) (b : Bool) (mark : Option Mark) → IfSome mark (MarkIs P) → IfSome (if b then None else mark) (MarkIs P)
none_or_is P true mark is = tt
none_or_is P false mark is = is

if_room_is : (P : ItemId → Type 0) (b : Bool) (mark : Option Mark) → IfSome mark (MarkIs P) → IfSome (if b then mark else None) (MarkIs P)
if_room_is P true mark is = is
if_room_is P false mark is = tt

-- ---- slots made of marks

closed_items : (P : ItemId → Type 0) (marks : Marks) → AreMarks P marks → AreSlots P (items_of marks)
closed_items P [] are = All-nil (SlotIs P)
closed_items P (None ∷ marks) are = closed_items P marks (All-tail (λ mark. IfSome mark (MarkIs P)) None marks are)
closed_items P (Some Skipped ∷ marks) are = closed_items P marks (All-tail (λ mark. IfSome mark (MarkIs P)) (Some Skipped) marks are)
closed_items P (Some (Placed spot) ∷ marks) are =
    let is : P spot.item × P spot.leaf = All-head (λ mark. IfSome mark (MarkIs P)) (Some (Placed spot)) marks are in
    All-cons (SlotIs P) (Some spot.item) (items_of marks) is.0 (closed_items P marks (All-tail (λ mark. IfSome mark (MarkIs P)) (Some (Placed spot)) marks are))

closed_leaves : (P : ItemId → Type 0) (marks : Marks) → AreMarks P marks → AreSlots P (leaves_of marks)
closed_leaves P [] are = All-nil (SlotIs P)
closed_leaves P (None ∷ marks) are = closed_leaves P marks (All-tail (λ mark. IfSome mark (MarkIs P)) None marks are)
closed_leaves P (Some Skipped ∷ marks) are = closed_leaves P marks (All-tail (λ mark. IfSome mark (MarkIs P)) (Some Skipped) marks are)
closed_leaves P (Some (Placed spot) ∷ marks) are =
    let is : P spot.item × P spot.leaf = All-head (λ mark. IfSome mark (MarkIs P)) (Some (Placed spot)) marks are in
    All-cons (SlotIs P) (Some spot.leaf) (leaves_of marks) is.1 (closed_leaves P marks (All-tail (λ mark. IfSome mark (MarkIs P)) (Some (Placed spot)) marks are))

item_at_is : (P : ItemId → Type 0) (mark : Option Mark) → IfSome mark (MarkIs P) → SlotIs P (item_at mark)
item_at_is P None is = tt
item_at_is P (Some Skipped) is = tt
item_at_is P (Some (Placed spot)) is = is.0

leaf_at_is : (P : ItemId → Type 0) (mark : Option Mark) → IfSome mark (MarkIs P) → SlotIs P (leaf_at mark)
leaf_at_is P None is = tt
leaf_at_is P (Some Skipped) is = tt
leaf_at_is P (Some (Placed spot)) is = is.1

-- ---- lists that grow, and rounds

grown_are : (P : ItemId → Type 0) (next : Marks → ℕ → Option Mark) (n : ℕ) → ((before : Marks) (k : ℕ) → IfSome (next before k) (MarkIs P)) → AreMarks P (grown next n)
grown_are P next zero each = All-nil (λ mark. IfSome mark (MarkIs P))
grown_are P next (suc n) each = All-push (λ mark. IfSome mark (MarkIs P)) (grown next n) (next (grown next n) n) (grown_are P next n each) (each (grown next n) n)

at_is : (P : ItemId → Type 0) (marks : Marks) (k : ℕ) → AreMarks P marks → IfSome (slice_index_or marks k None) (MarkIs P)
at_is P [] k are = tt
at_is P (mark ∷ marks) zero are = All-head (λ mark. IfSome mark (MarkIs P)) mark marks are
at_is P (mark ∷ marks) (suc k) are = at_is P marks k (All-tail (λ mark. IfSome mark (MarkIs P)) mark marks are)

round_are : (P : ItemId → Type 0) (tries : Marks → ℕ → ℕ → Option Mark) (f n : ℕ) (marks : Marks) → ((before : Marks) (k g : ℕ) → IfSome (tries before k g) (MarkIs P))
    → AreMarks P marks → AreMarks P (in_round tries f n marks)
round_are P tries f zero marks each are = are
round_are P tries f (suc n) marks each are =
    let before = in_round tries f n marks in
    let so_far : AreMarks P before = round_are P tries f n marks each are in
    All-set (λ mark. IfSome mark (MarkIs P)) before n (or_else (slice_index_or before n None) (tries before n f))
    (or_else_is (MarkIs P) (slice_index_or before n None) (tries before n f) (at_is P before n so_far) (each before n f)) so_far

rounds_are : (P : ItemId → Type 0) (tries : Marks → ℕ → ℕ → Option Mark) (n rounds : ℕ) → ((before : Marks) (k g : ℕ) → IfSome (tries before k g) (MarkIs P))
    → AreMarks P (after_rounds tries n rounds)
rounds_are P tries n zero each = All-replicate (λ mark. IfSome mark (MarkIs P)) n None tt
rounds_are P tries n (suc rounds) each = round_are P tries rounds n (after_rounds tries n rounds) each (rounds_are P tries n rounds each)

-- where a bucket is empty, no item is found
sized_by : (P : ItemId → Type 0) (n : ℕ) (end : WalkEnd) (empty : Bool) → (n == 0) ≡ empty → (0 < n → IsFound P end) → IsFound P (if empty then Empty else end)
sized_by P n end true e is = tt
sized_by P n end false e is = is (grind (arith, nat_tests, e))

sized_is : (P : ItemId → Type 0) (n : ℕ) (end : WalkEnd) → (0 < n → IsFound P end) → IsFound P (if n == 0 then Empty else end)
sized_is P n end is = sized_by P n end (n == 0) refl is

-- ---- numbers

number_put : (Q : ℕ → Type 0) (n : ℕ) (ns : List ℕ) → Q n → All Q ns → All Q (with_number n ns)
number_put Q n [] is are = All-cons Q n [] is are
number_put Q n (m ∷ ms) is are =
    let rest = All-tail Q m ms are in
    let first = All-head Q m ms are in
    either_is (All Q) (nat_lt n m) (n ∷ m ∷ ms) _ (All-cons Q n (m ∷ ms) is are)
    (either_is (All Q) (n == m) (m ∷ ms) (m ∷ with_number n ms) are (All-cons Q m (with_number n ms) first (number_put Q n ms is rest)))

numbers_sorted : (Q : ℕ → Type 0) (ns : List ℕ) → All Q ns → All Q (ascending ns)
numbers_sorted Q [] are = are
numbers_sorted Q (n ∷ ns) are = number_put Q n (ascending ns) (All-head Q n ns are) (numbers_sorted Q ns (All-tail Q n ns are))

-- the device has it
abbrev pub NumberIs : (ItemId → Type 0) → ℕ → Type 0
NumberIs P device = P (record { 0 = pos device })

id_is : (P : ItemId → Type 0) (id : ℤ) (devices : List ℕ) → P (record { 0 = id }) → All (NumberIs P) devices → All (NumberIs P) (devices_before id devices)
id_is P (pos device) devices is are = All-cons (NumberIs P) device devices is are
id_is P (negsuc n) devices is are = are

numbers_are : (P : ItemId → Type 0) (slots : List Slot) → AreSlots P slots → All (NumberIs P) (devices_of slots)
numbers_are P [] are = All-nil (NumberIs P)
numbers_are P (None ∷ slots) are = numbers_are P slots (All-tail (SlotIs P) None slots are)
numbers_are P (Some item ∷ slots) are =
    id_is P item.0 (devices_of slots) (All-head (SlotIs P) (Some item) slots are) (numbers_are P slots (All-tail (SlotIs P) (Some item) slots are))

-- what each pick has
abbrev pub ArePicks : (ItemId → Type 0) → TablesView → Type 0
ArePicks P t = (bucket x r : ℕ) → 0 < size_at t bucket → P (pick_at t bucket x r)

-- what a step takes has it
abbrev pub TakeIs : (ItemId → Type 0) → Step → Type 0
TakeIs P (Take item) = P item
TakeIs P (SetChooseTries n) = Unit {0}
TakeIs P (SetLeafTries n) = Unit {0}
TakeIs P (SetVaryR n) = Unit {0}
TakeIs P (SetStable n) = Unit {0}
TakeIs P (Choose by_firstn leaf n wanted) = Unit {0}
TakeIs P Emit = Unit {0}

module _ (P : ItemId → Type 0) (t : TablesView) (picks : ArePicks P t) where
  -- ---- walks

  at_item_is : (wanted : ℕ) (down : ℕ → WalkEnd) (item : ItemId) (r : ℕ) (o : Option ℕ) → P item → ((k : ℕ) → IsFound P (down k)) → IsFound P (at_item t wanted down item r o)
  at_item_is wanted down item r None is below = either_is (IsFound P) (0 == wanted) (Found item r) Wrong is tt
  at_item_is wanted down item r (Some k) is below = either_is (IsFound P) (type_at t k == wanted) (Found item r) (down k) is (below k)

  below_is : (x : ℕ) (rr : ℕ → ℕ) (wanted n bucket : ℕ) → IsFound P (reach_below t x rr wanted n bucket)
  below_is x rr wanted zero bucket = tt
  below_is x rr wanted (suc n) bucket =
      let item = pick_at t bucket x (rr bucket) in
      sized_is P (size_at t bucket) (at_item t wanted (reach_below t x rr wanted n) item (rr bucket) (bucket_numbered t item)) (λ some.
      at_item_is wanted (reach_below t x rr wanted n) item (rr bucket) (bucket_numbered t item) (picks bucket x (rr bucket) some) (λ k. below_is x rr wanted n k))

  -- what a walk finds has it
  reach_is : (x : ℕ) (rr : ℕ → ℕ) (wanted bucket : ℕ) → IsFound P (reach t x rr wanted bucket)
  unfolding reach
  reach_is x rr wanted bucket = below_is x rr wanted (suc bucket) bucket

  -- ---- firstn

  new_leaf_is : (w : List ℕ) (c : FirstnCall) (leaves : List Slot) (end : WalkEnd) → IsFound P end → IfSome (new_leaf w c leaves end) P
  new_leaf_is w c leaves Empty is = tt
  new_leaf_is w c leaves Wrong is = tt
  new_leaf_is w c leaves (Found item r) is = then_some_is P (is_device_in w c.x item && not (has leaves item)) item is

  leaf_below_is : (w : List ℕ) (c : FirstnCall) (leaves : List Slot) (bucket from : ℕ) → IfSome (leaf_below t w c leaves bucket from) P
  unfolding leaf_below leaf_by
  leaf_below_is w c leaves bucket from =
      least_is P _ c.leaf_tries (λ g. new_leaf_is w c leaves (reach t c.x (λ b. from + g) 0 bucket) (reach_is c.x (λ b. from + g) 0 bucket))

  leaf_of_is : (w : List ℕ) (c : FirstnCall) (leaves : List Slot) (count : ℕ) (item : ItemId) (r : ℕ) (o : Option ℕ) → P item → IfSome (leaf_of t w c leaves count item r o) P
  leaf_of_is w c leaves count item r None is = then_some_is P (is_device_in w c.x item) item is
  leaf_of_is w c leaves count item r (Some bucket) is =
      either_is (λ (leaf : Option ItemId). IfSome leaf P) (c.leaf_tries == 0) (Some item) _ is (leaf_below_is w c leaves bucket (leaf_start c count r))

  firstn_outcome_is : (w : List ℕ) (c : FirstnCall) (items leaves : List Slot) (f : ℕ) (end : WalkEnd) → IsFound P end → IfSome (firstn_outcome t w c items leaves f end) (MarkIs P)
  firstn_outcome_is w c items leaves f Empty is = tt
  firstn_outcome_is w c items leaves f Wrong is = tt
  firstn_outcome_is w c items leaves f (Found item r) is =
      none_or_is P (has items item) _ (placed_is P f item _ is (leaf_of_is w c leaves (length items) item r (bucket_numbered t item) is))

  decided_is : (w : List ℕ) (c : FirstnCall) (items leaves : List Slot) (rep : ℕ) → IfSome (decided t w c items leaves rep) (MarkIs P)
  unfolding decided firstn_try
  decided_is w c items leaves rep =
      least_is (MarkIs P) _ c.tries (λ f. firstn_outcome_is w c items leaves f (reach t c.x (λ b. rep + f) c.wanted c.bucket) (reach_is c.x (λ b. rep + f) c.wanted c.bucket))

  mark_is : (w : List ℕ) (c : FirstnCall) (before : Marks) (rep : ℕ) → IfSome (mark_of t w c before rep) (MarkIs P)
  mark_is w c before rep =
      if_room_is P (nat_lt (length (items_of before)) c.room) (decided t w c (items_of before) (leaves_of before) rep) (decided_is w c (items_of before) (leaves_of before) rep)

  firstn_are : (w : List ℕ) (c : FirstnCall) → AreMarks P (firstn t w c)
  unfolding firstn
  firstn_are w c = grown_are P (mark_of t w c) c.numrep (mark_is w c)

  -- ---- indep

  leaf_in_is : (w : List ℕ) (x : ℕ) (end : WalkEnd) → IsFound P end → IfSome (leaf_in w x end) P
  leaf_in_is w x Empty is = tt
  leaf_in_is w x Wrong is = tt
  leaf_in_is w x (Found item r) is = then_some_is P (is_device_in w x item) item is

  indep_leaf_is : (w : List ℕ) (c : IndepCall) (bucket from : ℕ) → IfSome (indep_leaf t w c bucket from) P
  unfolding indep_leaf indep_leaf_by
  indep_leaf_is w c bucket from =
      least_is P _ c.leaf_tries (λ g.
      leaf_in_is w c.x (reach t c.x (λ k. from + step t c.numrep g k) 0 bucket) (reach_is c.x (λ k. from + step t c.numrep g k) 0 bucket))

  indep_leaf_of_is : (w : List ℕ) (c : IndepCall) (place : ℕ) (item : ItemId) (r : ℕ) (o : Option ℕ) → P item → IfSome (indep_leaf_of t w c place item r o) P
  indep_leaf_of_is w c place item r None is = then_some_is P (is_device_in w c.x item) item is
  indep_leaf_of_is w c place item r (Some bucket) is =
      either_is (λ (leaf : Option ItemId). IfSome leaf P) (c.leaf_tries == 0) (Some item) _ is (indep_leaf_is w c bucket (place + r))

  indep_outcome_is : (w : List ℕ) (c : IndepCall) (marks : Marks) (place f : ℕ) (end : WalkEnd) → IsFound P end → IfSome (indep_outcome t w c marks place f end) (MarkIs P)
  indep_outcome_is w c marks place f Empty is = tt
  indep_outcome_is w c marks place f Wrong is = tt
  indep_outcome_is w c marks place f (Found item r) is =
      none_or_is P (taken marks f place item) _ (placed_is P f item _ is (indep_leaf_of_is w c place item r (bucket_numbered t item) is))

  indep_try_is : (w : List ℕ) (c : IndepCall) (marks : Marks) (place f : ℕ) → IfSome (indep_try t w c marks place f) (MarkIs P)
  unfolding indep_try
  indep_try_is w c marks place f =
      indep_outcome_is w c marks place f (reach t c.x (λ k. place + step t c.numrep f k) c.wanted c.bucket) (reach_is c.x (λ k. place + step t c.numrep f k) c.wanted c.bucket)

  indep_are : (w : List ℕ) (c : IndepCall) → AreMarks P (indep t w c)
  unfolding indep
  indep_are w c = rounds_are P (indep_try t w c) c.n c.tries (indep_try_is w c)

  -- ---- a choose step

  put_out_are : (w : List ℕ) (c : ChooseCall) (room bucket : ℕ) → AreSlots P (put_out t w c room bucket)
  unfolding put_out
  put_out_are w c room bucket =
      let in_order = firstn t w (firstn_call c room bucket) in
      let by_place = indep t w (indep_call c room bucket) in
      let ordered : AreMarks P in_order = firstn_are w (firstn_call c room bucket) in
      let placed : AreMarks P by_place = indep_are w (indep_call c room bucket) in
      either_is (AreSlots P) (c.numrep == 0) [] _ (All-nil (SlotIs P))
      (either_is (AreSlots P) c.firstn _ _
      (either_is (AreSlots P) c.leaf (leaves_of in_order) (items_of in_order) (closed_leaves P in_order ordered) (closed_items P in_order ordered))
      (either_is (AreSlots P) c.leaf (map leaf_at by_place) (map item_at by_place)
      (All-map (SlotIs P) leaf_at by_place (All-weaker (λ mark. IfSome mark (MarkIs P)) (λ mark. SlotIs P (leaf_at mark)) (leaf_at_is P) by_place placed))
      (All-map (SlotIs P) item_at by_place (All-weaker (λ mark. IfSome mark (MarkIs P)) (λ mark. SlotIs P (item_at mark)) (item_at_is P) by_place placed))))

  bucket_out_are : (w : List ℕ) (c : ChooseCall) (room : ℕ) (o : Option ℕ) → AreSlots P (bucket_out t w c room o)
  bucket_out_are w c room None = All-nil (SlotIs P)
  bucket_out_are w c room (Some bucket) = put_out_are w c room bucket

  slot_out_are : (w : List ℕ) (c : ChooseCall) (room : ℕ) (slot : Slot) → AreSlots P (slot_out t w c room slot)
  slot_out_are w c room None = All-nil (SlotIs P)
  slot_out_are w c room (Some item) = bucket_out_are w c room (bucket_numbered t item)

  -- what a choose step puts out has it, whatever it starts from
  step_out_are : (w : List ℕ) (c : ChooseCall) (room : ℕ) (slots : List Slot) → AreSlots P (step_out t w c room slots)
  step_out_are w c room [] = All-nil (SlotIs P)
  step_out_are w c room (slot ∷ slots) =
      let out = slot_out t w c room slot in
      All-append (SlotIs P) out (step_out t w c (room - length out) slots) (slot_out_are w c room slot) (step_out_are w c (room - length out) slots)

  -- ---- a rule

  -- the working list and the answer so far have it
  abbrev RunIs : Running → Type 0
  RunIs s = AreSlots P s.working × AreSlots P s.emitted

  after_step_is : (w : List ℕ) (x size : ℕ) (s : Running) (step : Step) → TakeIs P step → RunIs s → RunIs (after_step t w x size s step)
  after_step_is w x size s (Take item) is run = (All-cons (SlotIs P) (Some item) [] is (All-nil (SlotIs P)), run.1)
  after_step_is w x size s (SetChooseTries n) is run = either_is RunIs (n == 0) s (with_settings s (record s.settings { tries = n })) run run
  after_step_is w x size s (SetLeafTries n) is run = either_is RunIs (n == 0) s (with_settings s (record s.settings { leaf_tries = n })) run run
  after_step_is w x size s (SetVaryR n) is run = run
  after_step_is w x size s (SetStable n) is run = run
  after_step_is w x size s (Choose by_firstn leaf n wanted) is run =
      (step_out_are w (choose_call t.tunables s.settings x size by_firstn leaf n wanted) size s.working, run.1)
  after_step_is w x size s Emit is run =
      (All-nil (SlotIs P), All-append (SlotIs P) s.emitted (take (size - length s.emitted) s.working) run.1 (All-take (SlotIs P) (size - length s.emitted) s.working run.0))

  after_steps_are : (w : List ℕ) (x size : ℕ) (s : Running) (steps : List Step) → All (TakeIs P) steps → RunIs s → RunIs (after_steps t w x size s steps)
  after_steps_are w x size s [] are run = run
  after_steps_are w x size s (step ∷ steps) are run =
      after_steps_are w x size (after_step t w x size s step) steps (All-tail (TakeIs P) step steps are) (after_step_is w x size s step (All-head (TakeIs P) step steps are) run)

  -- each item of the answer has it
  pub answer_are : (w : List ℕ) (steps : List Step) (x size : ℕ) → All (TakeIs P) steps → AreSlots P (rule_answer t w steps x size)
  unfolding after_rule
  answer_are w steps x size are =
      let run : RunIs (after_steps t w x size (start t.tunables) steps) = after_steps_are w x size (start t.tunables) steps are (All-nil (SlotIs P), All-nil (SlotIs P)) in run.1

  -- ---- a trace

  abbrev MadeIs : Running → Type 0
  MadeIs s = All (NumberIs P) s.made

  after_step_made : (w : List ℕ) (x size : ℕ) (s : Running) (step : Step) → MadeIs s → MadeIs (after_step t w x size s step)
  after_step_made w x size s (Take item) made = made
  after_step_made w x size s (SetChooseTries n) made = either_is MadeIs (n == 0) s (with_settings s (record s.settings { tries = n })) made made
  after_step_made w x size s (SetLeafTries n) made = either_is MadeIs (n == 0) s (with_settings s (record s.settings { leaf_tries = n })) made made
  after_step_made w x size s (SetVaryR n) made = made
  after_step_made w x size s (SetStable n) made = made
  after_step_made w x size s (Choose by_firstn leaf n wanted) made =
      let out = step_out t w (choose_call t.tunables s.settings x size by_firstn leaf n wanted) size s.working in
      let are = step_out_are w (choose_call t.tunables s.settings x size by_firstn leaf n wanted) size s.working in
      All-append (NumberIs P) s.made (devices_of out) made (numbers_are P out are)
  after_step_made w x size s Emit made = made

  after_steps_made : (w : List ℕ) (x size : ℕ) (s : Running) (steps : List Step) → MadeIs s → MadeIs (after_steps t w x size s steps)
  after_steps_made w x size s [] made = made
  after_steps_made w x size s (step ∷ steps) made = after_steps_made w x size (after_step t w x size s step) steps (after_step_made w x size s step made)

  -- each device of the trace has it
  pub trace_are : (w : List ℕ) (steps : List Step) (x size : ℕ) → All (NumberIs P) (rule_trace t w steps x size)
  unfolding after_rule
  trace_are w steps x size =
      numbers_sorted (NumberIs P) _ (after_steps_made w x size (start t.tunables) steps (All-nil (NumberIs P)))
