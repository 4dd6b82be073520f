use Rattle.std.proofs.Common.{◌≡◌, ℕ, ◌+◌, ◌-◌, slice_index, slice_index_or, [], ◌∷◌, refl, ap, subst, ◌∙◌, arith}
use Rattle.crush_hash.specs.Hash.{hash4}
use Rattle.crush_bucket.specs.Bucket.{word}
use Rattle.crush_bucket.specs.Private.Walks.{IsOnWay}
use Rattle.crush_hash.proofs.MemberLanes.{below_eight}
use Rattle.crush_bucket.proofs.Ways.{way_node}
use Rattle.crush_bucket.proofs.walks.walk_down.Goals as goal

pub loop-left-init : goal.loop-left-init
loop-left-init c lane d low = c.begin-highest.ensures.roots lane d (slice_index c.args.xs.now lane) c.args.r low

pub children-nodes-requires : goal.children-nodes-requires
children-nodes-requires c lane d low =
    let l = c.loop-left in
    let b = (slice_index_or c.args.trees.now lane d) in
    let x = slice_index c.args.xs.now lane in
    let left : l.left ≡ l.left - 1 + 1 = omega arith in
    way_node b x c.args.r (l.left - 1 + 1) (slice_index l.nodes lane) (subst (λ (n : ℕ). IsOnWay b x c.args.r n (slice_index l.nodes lane)) left (l.invariant lane d low))

pub loop-left-preserved : goal.loop-left-preserved
loop-left-preserved c lane d low =
    let l = c.loop-left in
    let b = (slice_index_or c.args.trees.now lane d) in
    let x = slice_index c.args.xs.now lane in
    let r = c.args.r in
    let node = slice_index l.nodes lane in
    let left : l.left ≡ l.left - 1 + 1 = omega arith in
    let way : IsOnWay b x r (l.left - 1 + 1) node = subst (λ (n : ℕ). IsOnWay b x r n node) left (l.invariant lane d low) in
    let rs = r ∷ r ∷ r ∷ r ∷ r ∷ r ∷ r ∷ r ∷ [] in
    let at_r : slice_index rs lane ≡ r = below_eight (λ (lane : ℕ). slice_index rs lane ≡ r) refl refl refl refl refl refl refl refl lane low in
    let hash : slice_index c.hash4_each-hashes.result lane ≡ hash4 x node r (word b.id) = c.hash4_each-hashes.ensures lane low ∙ (ap (λ (k : ℕ). hash4 x node k (slice_index c.begin-highest.result.0 lane)) at_r ∙ ap (λ (id : ℕ). hash4 x node r id) (c.begin-highest.ensures.words lane d low)) in
    c.children-nodes.ensures lane d low x r way hash

pub returns : goal.returns
returns c lane d low =
    let l = c.loop-left in
    let b = (slice_index_or c.args.trees.now lane d) in
    let x = slice_index c.args.xs.now lane in
    let end : l.left ≡ 0 = omega arith in
    c.items_at.ensures lane d low x c.args.r (subst (λ (n : ℕ). IsOnWay b x c.args.r n (slice_index l.nodes lane)) end (l.invariant lane d low))
