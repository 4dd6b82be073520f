-- The ways of walks down trees of different heights.
use Rattle.std.proofs.Common.{◌≡◌, ℕ, suc, ◌+◌, ◌-◌, ◌/◌, ◌<◌, ◌≤◌, ◌^◌, List, length, min, ap, sym, subst, ◌∙◌, arith}
use Rattle.std.proofs.Math.Nat.{pow-succ'}
use Rattle.std.proofs.lemmas.Nat.{pow_pos}
use Rattle.crush_hash.specs.Hash.{hash4}
use Rattle.crush_map.specs.crush_types.specs.declared.ItemId.{ItemId}
use Rattle.crush_map.specs.crush_types.specs.declared.Kind.TheVariants.{Tree}
use Rattle.crush_bucket.specs.Bucket.{BucketView, word, item_at, IsItemOf}
use Rattle.crush_bucket.specs.Kinds.{tree_pick}
use Rattle.crush_bucket.specs.Pick.{pick}
use Rattle.crush_bucket.specs.Private.Descent.{child}
use Rattle.crush_bucket.specs.Private.Kept.{HasNodes, AreNodes, AtNode}
use Rattle.crush_bucket.specs.Private.Walks.{tree_height, levels, IsNode, IsOnWay, GoesOn, IsPickAt, Keeps}
use Rattle.crush_bucket.proofs.Nodes.{at_root, node_inside, step_down, at_leaf, few_nodes}

-- a walk begins at the root, however many levels are left above it
pub way_begins : (b : BucketView) (x r left : ℕ) → tree_height b ≤ left → IsOnWay b x r left (2 ^ tree_height b)
way_begins b x r left high =
    let all : tree_height b ≡ levels b left = omega arith in
    subst (λ (h : ℕ). AtNode b.id b.items x r (tree_height b) h (2 ^ tree_height b)) all (at_root b.id b.items x r (tree_height b))

-- a walk's node is one of the list
pub way_node : (b : BucketView) (x r left node : ℕ) → IsOnWay b x r left node → IsNode b left node
way_node b x r left node way =
    let inside = node_inside b.id b.items x r (tree_height b) (levels b left) node way in
    record { low = inside.0; high = inside.1 }

-- where the tree has no more levels the walk waits
pub way_waits : (b : BucketView) (left node hash : ℕ) → tree_height b ≤ left → GoesOn b left node hash node
way_waits b left node hash high x r way is =
    let same : levels b (left + 1) ≡ levels b left = omega arith in
    subst (λ (h : ℕ). AtNode b.id b.items x r (tree_height b) h node) same way

-- where it has, the walk goes to the child to which the hash leads
pub way_steps : (b : BucketView) (nodes : List ℕ) (left node hash to : ℕ) → left < tree_height b → HasNodes b.items nodes 0 (tree_height b) → to ≡ child nodes hash node (2 ^ left) → GoesOn b left node hash to
way_steps b nodes left node hash to more whole e x r way is =
    let h = tree_height b in
    let above : levels b (left + 1) ≡ suc left = omega arith in
    let below : left ≡ levels b left = omega arith in
    let at : AtNode b.id b.items x r h (suc left) node = subst (λ (l : ℕ). AtNode b.id b.items x r h l node) above way in
    let next : AtNode b.id b.items x r h left (child nodes (hash4 x node r (word b.id)) node (2 ^ left)) = step_down b.id b.items nodes x r h left node whole at in
    let there : child nodes (hash4 x node r (word b.id)) node (2 ^ left) ≡ to = ap (λ (k : ℕ). child nodes k node (2 ^ left)) (sym is) ∙ sym e in
    let here : AtNode b.id b.items x r h left to = subst (λ (n : ℕ). AtNode b.id b.items x r h left n) there next in
    subst (λ (l : ℕ). AtNode b.id b.items x r h l to) below here

-- the node from which the walk goes on, and the halves of its range, are within the list
pub record IsWithin (half node all : ℕ) : Type 0 where
  pub left : half ≤ node
  pub right : node + half < 2 ^ 18
  pub inside : node < all

pub node_within : (b : BucketView) (left node half all : ℕ) → left < tree_height b → tree_height b < 17 → half ≡ 2 ^ left → all ≡ 2 ^ suc (tree_height b) → IsNode b (left + 1) node → IsWithin half node all
node_within b left node half all more low is_half is_all is =
    let above : levels b (left + 1) ≡ suc left = omega arith in
    let range : 2 ^ levels b (left + 1) ≡ 2 ^ suc left = ap (λ (k : ℕ). 2 ^ k) above in
    let double = pow-succ' 2 left in
    let few = few_nodes (tree_height b) low in
    let some = pow_pos left in
    record {
      left = omega (arith, is.low, range, double, is_half);
      right = omega (arith, is.high, range, double, is_half, few);
      inside = omega (arith, is.high, range, double, is_all, some);
    }

-- the item at a leaf's place
pub way_ends : (b : BucketView) (leaf : ℕ) (item : ItemId) → b.kind ≡ Tree → item ≡ item_at b.items (min (leaf / 2) (length b.items - 1)) → IsItemOf b.items item → IsPickAt b leaf item
unfolding pick tree_pick
way_ends b leaf item kind is among x r way =
    let none : levels b 0 ≡ 0 = omega arith in
    let at : AtNode b.id b.items x r (tree_height b) 0 leaf = subst (λ (h : ℕ). AtNode b.id b.items x r (tree_height b) h leaf) none way in
    let place = at_leaf b.id b.items x r (tree_height b) leaf at in
    record { picked = rw kind (is ∙ ap (λ (k : ℕ). item_at b.items (min k (length b.items - 1))) place); is_item = among }

-- what a bucket's tree has is what walks need of it
pub keeps : (b : BucketView) (height : ℕ) (nodes : List ℕ) → b.kind ≡ Tree → 0 < length b.items → AreNodes b.items height nodes → Keeps b height nodes
keeps b height nodes kind some are = record {
  tree = kind;
  some = some;
  height_is = are.least;
  low = subst (λ (h : ℕ). h < 17) are.least are.low;
  size = are.size ∙ ap (λ (h : ℕ). 2 ^ suc h) are.least;
  weights = subst (λ (h : ℕ). HasNodes b.items nodes 0 h) are.least are.weights;
}
