use Rattle.std.proofs.Common.{◌≡◌, ℕ, ◌+◌, ◌-◌, ◌*◌, ◌%◌, ◌<◌, slice_index, arith, ap, sym, subst, ◌∙◌}
use Rattle.crush_hash.specs.Hash.{hash3}
use Rattle.crush_hash.specs.Permutation.{partner, word}
use Rattle.crush_hash.specs.Private.Eight.{ComesTo, place_before}
use Rattle.crush_hash.proofs.Back.{comes_back, comes_first, comes_last}
use Rattle.crush_hash.proofs.early.early_member.Goals as goal

pub loop-left-init : goal.loop-left-init
loop-left-init c = record {
  few = omega arith;
  comes = λ id x h. comes_first id c.args.size x c.args.place c.requires.within;
}

pub loop-left-preserved : goal.loop-left-preserved
loop-left-preserved c =
    let hashes = c.args.hashes.now in
    let size = c.args.size in
    let p = c.args.place in
    let l = c.loop-left in
    let n = l.left - 1 in
    let low : n < size = omega (arith, c.requires.within, l.invariant.few, c.loop-left-test.true) in
    record {
      few = omega (arith, l.invariant.few);
      comes = λ id x h. (
          let before : ComesTo id size x p (n + 1) l.at = subst (λ (k : ℕ). ComesTo id size x p k l.at) (omega (arith, c.loop-left-test.true)) (l.invariant.comes id x h) in
          let small : 4 * 0 + n ≡ n = omega arith in
          let hash : slice_index hashes n ≡ hash3 x (word id) n = h n (omega (arith, c.requires.early, l.invariant.few, c.loop-left-test.true)) (omega (arith, c.requires.early, l.invariant.few, c.loop-left-test.true)) ∙ ap (λ (k : ℕ). hash3 x (word id) k) small in
          let is : c.place_before-at.result ≡ place_before l.at n (partner id size x n) = c.place_before-at.ensures ∙ ap (λ (k : ℕ). place_before l.at n (n + k % (size - n))) hash in
          subst (λ (k : ℕ). ComesTo id size x p n k) (sym is) (comes_back id size x p n l.at low before));
    }

pub returns : goal.returns
returns c id x h =
    let l = c.loop-left in
    let end : l.left ≡ 0 = omega (arith, c.loop-left-test.false) in
    comes_last id c.args.size x c.args.place l.at (subst (λ (k : ℕ). ComesTo id c.args.size x c.args.place k l.at) end (l.invariant.comes id x h))
