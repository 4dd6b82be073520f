use Rattle.std.proofs.Common.{◌≡◌, ◌*◌, suc, ◌+◌, ◌-◌, ◌<◌, ◌^◌, ◌++◌, [], ◌∷◌, List, ℕ, arith, ap, sym, ◌∙◌}
use Rattle.std.proofs.Math.Nat.{pow-succ'}
use Rattle.crush_bucket.specs.Bucket.{weight_within}
use Rattle.crush_bucket.specs.Private.Kept.{node_weights}
use Rattle.crush_bucket.proofs.Nodes.{nodes_split, joined}
use Rattle.crush_bucket.proofs.tree.+push_nodes.Goals as goal

-- a range twice as large
double : (h : ℕ) → 0 < h → 2 ^ h ≡ 2 * 2 ^ (h - 1)
double h some = let e : h ≡ suc (h - 1) = omega arith in ap (λ (k : ℕ). 2 ^ k) e ∙ pow-succ' 2 (h - 1)

pub push_nodes-requires : goal.push_nodes-requires
push_nodes-requires t c =
    let p = double c.args.height (omega arith) in
    (omega arith, (c.requires.few, (c.requires.light, (omega arith, omega (arith, p)))))

pub push_nodes-requires-2 : goal.push_nodes-requires-2
push_nodes-requires-2 t c =
    let p = double c.args.height (omega arith) in
    (omega arith, (c.requires.few, (c.requires.light, (omega arith, omega (arith, p)))))

pub returns : goal.returns
returns t c =
    let p = double c.args.height (omega arith) in
    let h = c.args.height - 1 in
    let split = nodes_split c.args.items.now c.args.from c.args.height (omega arith) in
    let half : c.places-half.result ≡ 2 ^ h = c.places-half.ensures in
    let whole : 2 * c.places-half.result ≡ 2 ^ c.args.height = omega (arith, p, half) in
    let low = node_weights c.args.items.now c.args.from h in
    let high = node_weights c.args.items.now (c.args.from + 2 ^ h) h in
    let w = weight_within c.args.items.now c.args.from (2 ^ c.args.height) in
    let own : c.push-2.new.self.items ≡ c.push_nodes.new.nodes.items ++ w ∷ [] = grind (arith, whole) in
    let right : c.push_nodes-2.new.nodes.items ≡ c.push-2.new.self.items ++ high = rw half at (c.in_ok-push_nodes-2.ensures {u = tt}) in
    joined c.args.nodes.now.items low high c.push_nodes.new.nodes.items c.push-2.new.self.items c.push_nodes-2.new.nodes.items w (c.in_ok-push_nodes.ensures {u = tt}) own right
    ∙ ap (λ (xs : List ℕ). c.args.nodes.now.items ++ xs) (sym split)
