use Rattle.std.proofs.Common.{◌≡◌, suc, ◌++◌, [], ◌∷◌, List, ℕ, length, arith, ap, sym, ◌∙◌}
use Rattle.std.proofs.lemmas.List.{append-nil}
use Rattle.crush_bucket.proofs.Nodes.{nodes_within, length-node_weights}
use Rattle.crush_bucket.specs.Private.Kept.{node_weights, HasNodes}
use Rattle.crush_bucket.proofs.tree.nodes_of.Goals as goal

pub returns : goal.returns
returns c =
    let rows = node_weights c.args.items.now 0 c.args.height in
    let size = length-node_weights c.args.items.now 0 c.args.height in
    let first : c.push.new.self.items ≡ 0 ∷ [] = grind arith in
    let is : c.push_nodes.new.nodes.items ≡ 0 ∷ rows = c.in_ok-push_nodes.ensures {u = tt} ∙ ap (λ (xs : List ℕ). xs ++ rows) first in
    let len : length c.push_nodes.new.nodes.items ≡ suc (length rows) = ap length is in
    let has : HasNodes c.args.items.now c.push_nodes.new.nodes.items 0 c.args.height =
    nodes_within c.args.items.now 0 c.args.height c.push_nodes.new.nodes.items (0 ∷ []) [] (is ∙ ap (λ (xs : List ℕ). 0 ∷ xs) (sym (append-nil rows))) (omega arith)
    in
    record { least = c.requires.least; low = c.requires.low; size = omega (arith, len, size); weights = has }
