use Rattle.std.proofs.Common.{◌≡◌, ◌+◌, ◌-◌, ◌≤◌, min, max, take, slice_index, refl, ap, arith, ◌∙◌}
use Rattle.std.proofs.lemmas.Grind.{common_steps}
use Rattle.crush_hash.specs.Permutation.{Remembered, after_swaps, differing}
use Rattle.crush_hash.specs.Private.Reached.{swaps_of}
use Rattle.crush_hash.proofs.Members.{member_is}
use Rattle.crush_hash.proofs.Reaching.{rising_of, member_of}
use Rattle.crush_hash.proofs.reached.Progress.reach.Goals as goal

pub returns-then-place-wanted-clause-member : goal.returns-then-place-wanted-clause-member
returns-then-place-wanted-clause-member c =
    let s = c.args.self.now in
    let n = c.loop-n.n in
    let place = c.args.place in
    let next : n ≡ place + 1 = grind (arith, common_steps) in
    let last : n - 1 ≡ place = omega (arith, next) in
    c.loop-n.invariant.last (grind (arith, common_steps)) ∙ ap (λ k. slice_index (after_swaps s.hashes s.size s.x n) k) last ∙ member_is s.hashes s.size s.x place n c.requires.within (omega (arith, next, c.requires.within)) (omega (arith, next))

pub member_at-requires : goal.member_at-requires
member_at-requires c =
    rising_of c.loop-n.self.hashes c.loop-n.self.size c.loop-n.self.x (swaps_of c.loop-n.self) (take c.loop-n.self.len c.loop-n.row) (c.loop-n.invariant.reached.pairs c.loop-n.invariant.written)

pub returns-clause-member : goal.returns-clause-member
returns-clause-member c =
    let s = c.args.self.now in
    let n = c.loop-n.n in
    let place = c.args.place in
    let now = c.loop-n.invariant.remembered in
    let id = ap (λ (m : Remembered). m.of.id) now in
    let size = ap (λ (m : Remembered). m.of.size) now in
    let x = ap (λ (m : Remembered). m.x) now in
    let swaps = ap (λ (m : Remembered). m.swaps) now in
    let pairs = take c.loop-n.self.len c.loop-n.row in
    let has : pairs ≡ differing 0 (after_swaps s.hashes s.size s.x n) = rw (← id, ← size, ← x, ← swaps) (c.loop-n.invariant.reached.pairs c.loop-n.invariant.written) in
    let before : swaps_of s ≡ s.swaps = rw c.requires.written refl in
    let few : n ≤ s.size = grind (arith, common_steps, before, c.requires.reached.made) in
    let enough : min (place + 1) (s.size - 1) ≤ n = grind (arith, common_steps) in
    c.member_at.ensures ∙ member_of s.hashes s.size s.x n place pairs has c.requires.within ∙ member_is s.hashes s.size s.x place n c.requires.within few enough

pub returns-clause-remembered : goal.returns-clause-remembered
returns-clause-remembered c =
    let s = c.args.self.now in
    let before : swaps_of s ≡ s.swaps = rw c.requires.written refl in
    let made : c.loop-n.n ≡ max (swaps_of s) (min (c.args.place + 1) (s.size - 1)) = grind (arith, common_steps, before, c.loop-n.invariant.most) in
    rw (← made) c.loop-n.invariant.remembered
