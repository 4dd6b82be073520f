-- The nodes of a tree, and a walk over them.
use Rattle.std.proofs.Common.{◌≡◌, ℕ, zero, suc, ◌+◌, ◌-◌, ◌*◌, ◌/◌, ◌<◌, ◌≤◌, ◌^◌, List, [], ◌∷◌, ◌++◌, length, slice_index, slice_index_or, Bool, true, false, nat_lt, refl, ap, sym, ◌∙◌, arith, subst}
use Rattle.std.proofs.Math.Nat.{pow-succ', pow-le-pow_right}
use Rattle.std.proofs.lemmas.Nat.{pow_pos}
use Rattle.std.proofs.lemmas.List.{get_or_at, length-append, append_assoc}
use Rattle.std.proofs.lemmas.Bool.{lt-ltb}
use Rattle.std.proofs.lemmas.Bool.Decides.{nat_tests}
use Rattle.crush_hash.specs.Hash.{hash4}
use Rattle.crush_map.specs.crush_types.specs.declared.ItemId.{ItemId}
use Rattle.crush_bucket.specs.Bucket.{WeightedItem, word, weight_within}
use Rattle.crush_bucket.specs.Kinds.{label, tree_draw, place_within}
use Rattle.crush_bucket.specs.Private.Kept.{HasNodes, node_weights}
pub use Rattle.crush_bucket.specs.Private.Kept.{AtNode}
use Rattle.crush_bucket.specs.Private.Descent.{is_left, child, down_by}

pub length-node_weights : (items : List WeightedItem) (from h : ℕ) → length (node_weights items from h) + 1 ≡ 2 ^ suc h
length-node_weights items from zero = refl
length-node_weights items from (suc h) =
    let low = length-node_weights items from h in
    let high = length-node_weights items (from + 2 ^ h) h in
    let all = length-append (node_weights items from h) (weight_within items from (2 ^ suc h) ∷ node_weights items (from + 2 ^ h) h) in
    omega (arith, low, high, all, pow-succ' 2 h, pow-succ' 2 (suc h))

-- in a list that has the nodes of a range at their labels, each node has its weight
pub nodes_within : (items : List WeightedItem) (from h : ℕ) (nodes before after : List ℕ) → nodes ≡ before ++ (node_weights items from h ++ after) → length before ≡ 2 * from + 1 → HasNodes items nodes from h
nodes_within items from zero nodes before after e len =
    ap (λ (xs : List ℕ). slice_index_or xs (label from 0) 0) e ∙ get_or_at before (weight_within items from 1) after 0 (label from 0) (omega (arith, len))
nodes_within items from (suc h) nodes before after e len =
    let w = weight_within items from (2 ^ suc h) in
    let low = node_weights items from h in
    let high = node_weights items (from + 2 ^ h) h in
    let size = length-node_weights items from h in
    let parts : before ++ ((low ++ w ∷ high) ++ after) ≡ before ++ (low ++ (w ∷ high ++ after)) = ap (λ (xs : List ℕ). before ++ xs) (append_assoc low (w ∷ high) after) in
    let left : nodes ≡ before ++ (low ++ (w ∷ high ++ after)) = e ∙ parts in
    let mid : nodes ≡ (before ++ low) ++ w ∷ (high ++ after) = left ∙ sym (append_assoc before low (w ∷ high ++ after)) in
    let right : nodes ≡ ((before ++ low) ++ w ∷ []) ++ (high ++ after) = mid ∙ sym (append_assoc (before ++ low) (w ∷ []) (high ++ after)) in
    let at : length (before ++ low) ≡ label from (suc h) = omega (arith, len, size, length-append before low) in (
      ap (λ (xs : List ℕ). slice_index_or xs (label from (suc h)) 0) mid ∙ get_or_at (before ++ low) w (high ++ after) 0 (label from (suc h)) at,
      nodes_within items from h nodes before (w ∷ high ++ after) left len,
      nodes_within items (from + 2 ^ h) h nodes ((before ++ low) ++ w ∷ []) after right (omega (arith, at, pow-succ' 2 h, length-append (before ++ low) (w ∷ []))),
    )

-- the node of a range has the range's weight
pub node_weight : (items : List WeightedItem) (nodes : List ℕ) (from h : ℕ) → HasNodes items nodes from h → slice_index nodes (label from h) ≡ weight_within items from (2 ^ h)
node_weight items nodes from zero has = has
node_weight items nodes from (suc h) has = has.0

pub at_root : (id : ItemId) (items : List WeightedItem) (x r height : ℕ) → AtNode id items x r height height (2 ^ height)
at_root id items x r height = record { from = 0; labelled = omega arith; within = omega arith; weighed = λ nodes has. has; rest = refl }

-- the nodes of the halves of a range
left_half : (items : List WeightedItem) (nodes : List ℕ) (from h : ℕ) → HasNodes items nodes from (suc h) → HasNodes items nodes from h
left_half items nodes from h has = has.1

right_half : (items : List WeightedItem) (nodes : List ℕ) (from h : ℕ) → HasNodes items nodes from (suc h) → HasNodes items nodes (from + 2 ^ h) h
right_half items nodes from h has = has.2

-- the draw as the walk makes it
abbrev pub drawn : ItemId → List ℕ → ℕ → ℕ → ℕ → ℕ
drawn id nodes x r node = hash4 x node r (word id) * slice_index nodes node / 2 ^ 32

drawn_is : (id : ItemId) (items : List WeightedItem) (nodes : List ℕ) (x r from h node : ℕ) → node ≡ label from h → HasNodes items nodes from h → drawn id nodes x r node ≡ tree_draw id items x r from h
drawn_is id items nodes x r from h node e has = rw e (rw (node_weight items nodes from h has) refl)

-- the place at which the halving ends, where the draw is below the left half's weight, and where it
-- isn't
goes_left : (id : ItemId) (items : List WeightedItem) (x r from h : ℕ) → tree_draw id items x r from (suc h) < weight_within items from (2 ^ h) → place_within id items x r from (suc h) ≡ place_within id items x r from h
goes_left id items x r from h less = rw (lt-ltb (tree_draw id items x r from (suc h)) (weight_within items from (2 ^ h)) less) refl

goes_right : (id : ItemId) (items : List WeightedItem) (x r from h : ℕ) → weight_within items from (2 ^ h) ≤ tree_draw id items x r from (suc h) → place_within id items x r from (suc h) ≡ place_within id items x r (from + 2 ^ h) h
goes_right id items x r from h more =
    let not : nat_lt (tree_draw id items x r from (suc h)) (weight_within items from (2 ^ h)) ≡ false = grind (arith, nat_tests) in rw not refl

pub at_left : (id : ItemId) (items : List WeightedItem) (nodes : List ℕ) (x r height h node : ℕ) → HasNodes items nodes 0 height → AtNode id items x r height (suc h) node → drawn id nodes x r node < slice_index nodes (node - 2 ^ h) → AtNode id items x r height h (node - 2 ^ h)
at_left id items nodes x r height h node whole at less =
    let from = at.from in
    let double = pow-succ' 2 h in
    let lab : node ≡ label from (suc h) = at.labelled in
    let left : node - 2 ^ h ≡ label from h = omega (arith, lab, double) in
    let has : HasNodes items nodes from (suc h) = at.weighed nodes whole in
    let draw = drawn_is id items nodes x r from (suc h) node lab has in
    let weight : slice_index nodes (node - 2 ^ h) ≡ weight_within items from (2 ^ h) = rw left (node_weight items nodes from h has.1) in
    let below : tree_draw id items x r from (suc h) < weight_within items from (2 ^ h) = omega (arith, less, draw, weight) in
    record { from = from; labelled = left; within = omega (arith, at.within, double); weighed = λ all is. left_half items all from h (at.weighed all is); rest = at.rest ∙ goes_left id items x r from h below }

pub at_right : (id : ItemId) (items : List WeightedItem) (nodes : List ℕ) (x r height h node : ℕ) → HasNodes items nodes 0 height → AtNode id items x r height (suc h) node → slice_index nodes (node - 2 ^ h) ≤ drawn id nodes x r node → AtNode id items x r height h (node + 2 ^ h)
at_right id items nodes x r height h node whole at more =
    let from = at.from in
    let double = pow-succ' 2 h in
    let lab : node ≡ label from (suc h) = at.labelled in
    let left : node - 2 ^ h ≡ label from h = omega (arith, lab, double) in
    let right : node + 2 ^ h ≡ label (from + 2 ^ h) h = omega (arith, lab, double) in
    let has : HasNodes items nodes from (suc h) = at.weighed nodes whole in
    let draw = drawn_is id items nodes x r from (suc h) node lab has in
    let weight : slice_index nodes (node - 2 ^ h) ≡ weight_within items from (2 ^ h) = rw left (node_weight items nodes from h has.1) in
    let above : weight_within items from (2 ^ h) ≤ tree_draw id items x r from (suc h) = omega (arith, more, draw, weight) in
    record { from = from + 2 ^ h; labelled = right; within = omega (arith, at.within, double); weighed = λ all is. right_half items all from h (at.weighed all is); rest = at.rest ∙ goes_right id items x r from h above }

-- a node of a tree has a label in the list of nodes
pub node_inside : (id : ItemId) (items : List WeightedItem) (x r height h node : ℕ) → AtNode id items x r height h node → (2 ^ h ≤ node) × (node + 2 ^ h ≤ 2 ^ suc height)
node_inside id items x r height h node at = let l = at.labelled in let w = at.within in (omega arith, omega (arith, pow-succ' 2 height))

-- the nodes of a range that has halves
pub nodes_split : (items : List WeightedItem) (from h : ℕ) → 0 < h → node_weights items from h ≡ node_weights items from (h - 1) ++ weight_within items from (2 ^ h) ∷ node_weights items (from + 2 ^ (h - 1)) (h - 1)
nodes_split items from h some =
    let e : h ≡ suc (h - 1) = omega arith in
    ap (λ (k : ℕ). node_weights items from k) e ∙ ap (λ (k : ℕ). node_weights items from (h - 1) ++ weight_within items from (2 ^ k) ∷ node_weights items (from + 2 ^ (h - 1)) (h - 1)) (sym e)

-- a range's nodes, appended: those of the left half, its own, those of the right half
pub joined : (old low high a b d : List ℕ) (w : ℕ) → a ≡ old ++ low → b ≡ a ++ w ∷ [] → d ≡ b ++ high → d ≡ old ++ (low ++ w ∷ high)
joined old low high a b d w p q r =
    r ∙ (ap (λ (xs : List ℕ). xs ++ high) (q ∙ ap (λ (xs : List ℕ). xs ++ w ∷ []) p) ∙ (append_assoc (old ++ low) (w ∷ []) high ∙ append_assoc old low (w ∷ high)))

-- ---- levels at a time

-- the child to which a node's hash leads
pub step_down : (id : ItemId) (items : List WeightedItem) (nodes : List ℕ) (x r height h node : ℕ) → HasNodes items nodes 0 height → AtNode id items x r height (suc h) node → AtNode id items x r height h (child nodes (hash4 x node r (word id)) node (2 ^ h))
step_down id items nodes x r height h node whole at =
    let go : (b : Bool) → is_left nodes (hash4 x node r (word id)) node (2 ^ h) ≡ b → AtNode id items x r height h (child nodes (hash4 x node r (word id)) node (2 ^ h)) = λ b. elim b as (λ b. is_left nodes (hash4 x node r (word id)) node (2 ^ h) ≡ b → AtNode id items x r height h (child nodes (hash4 x node r (word id)) node (2 ^ h))) [
      | true ↦ λ e. (let less : drawn id nodes x r node < slice_index nodes (node - 2 ^ h) = grind (arith, nat_tests, e) in rw e (at_left id items nodes x r height h node whole at less))
      | false ↦ λ e. (let more : slice_index nodes (node - 2 ^ h) ≤ drawn id nodes x r node = grind (arith, nat_tests, e) in rw e (at_right id items nodes x r height h node whole at more))
    ] in go (is_left nodes (hash4 x node r (word id)) node (2 ^ h)) refl

-- the node k levels below
pub down_is : (id : ItemId) (items : List WeightedItem) (nodes : List ℕ) (x r height k level node : ℕ) → k ≤ level → HasNodes items nodes 0 height → AtNode id items x r height level node → AtNode id items x r height (level - k) (down_by id nodes x r k level node)
down_is id items nodes x r height zero level node few whole at = let e : level - 0 ≡ level = omega arith in rw e at
down_is id items nodes x r height (suc k) level node few whole at =
    let e : level ≡ suc (level - 1) = omega arith in
    let above : AtNode id items x r height (suc (level - 1)) node = subst (λ (l : ℕ). AtNode id items x r height l node) e at in
    let left : level - suc k ≡ level - 1 - k = omega arith in
    rw left (down_is id items nodes x r height k (level - 1) (child nodes (hash4 x node r (word id)) node (2 ^ (level - 1))) (omega arith) whole (step_down id items nodes x r height (level - 1) node whole above))

-- the walk's end
pub at_leaf : (id : ItemId) (items : List WeightedItem) (x r height node : ℕ) → AtNode id items x r height 0 node → node / 2 ≡ place_within id items x r 0 height
at_leaf id items x r height node at =
    let l = at.labelled in let here : node / 2 ≡ at.from = omega arith in here ∙ sym at.rest

-- a range of 2^level places is four of two levels below, and a range of those two of three below
pub quarters : (level : ℕ) → 1 < level → (2 ^ level ≡ 4 * 2 ^ (level - 2)) × (0 < 2 ^ (level - 2))
quarters level some =
    let e : level ≡ suc (suc (level - 2)) = omega arith in
    let double = pow-succ' 2 (level - 2) in
    let four : 2 ^ level ≡ 2 ^ suc (suc (level - 2)) = ap (λ (k : ℕ). 2 ^ k) e in
    (omega (arith, four, double, pow-succ' 2 (suc (level - 2))), pow_pos (level - 2))

pub eighths : (level : ℕ) → 2 < level → 2 ^ (level - 2) ≡ 2 * 2 ^ (level - 3)
eighths level some =
    let e : level - 2 ≡ suc (level - 3) = omega arith in ap (λ (k : ℕ). 2 ^ k) e ∙ pow-succ' 2 (level - 3)

-- a tree has few nodes
pub few_nodes : (height : ℕ) → height < 17 → 2 ^ suc height ≤ 2 ^ 17
few_nodes height low = pow-le-pow_right {n = 2} (omega arith) {i = suc height} {j = 17} (omega arith)
