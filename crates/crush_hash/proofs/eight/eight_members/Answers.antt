use Rattle.std.proofs.Common.{◌≡◌, ℕ, ◌+◌, ◌-◌, ◌%◌, ◌<◌, slice_index, slice_index_or, [], ◌∷◌, arith, refl, ap, sym, subst, ◌∙◌}
use Rattle.crush_hash.specs.Hash.{hash3}
use Rattle.crush_hash.specs.Permutation.{no_id, partner, word}
use Rattle.crush_hash.specs.Private.Eight.{ComesTo, place_before}
use Rattle.crush_hash.proofs.Back.{comes_back, comes_first, comes_last}
use Rattle.crush_hash.proofs.MemberLanes.{below_eight}
use Rattle.crush_hash.proofs.eight.eight_members.Goals as goal

pub loop-left-init : goal.loop-left-init
loop-left-init c =
    let ids = c.args.ids.now in
    let sizes = c.args.sizes.now in
    let xs = c.args.xs.now in
    let p = c.args.place in
    let words = c.word.result ∷ c.word-2.result ∷ c.word-3.result ∷ c.word-4.result ∷ c.word-5.result ∷ c.word-6.result ∷ c.word-7.result ∷ c.word-8.result ∷ [] in
    let first : (lane : ℕ) → lane < 8 → ComesTo (slice_index_or ids lane no_id) (slice_index sizes lane) (slice_index xs lane) p (p + 1) p = λ lane h. comes_first (slice_index_or ids lane no_id) (slice_index sizes lane) (slice_index xs lane) p (c.requires lane h) in
    let at = p ∷ p ∷ p ∷ p ∷ p ∷ p ∷ p ∷ p ∷ [] in
    record {
      few = omega arith;
      words =
          below_eight (λ (lane : ℕ). slice_index words lane ≡ word (slice_index_or ids lane no_id))
          c.word.ensures c.word-2.ensures c.word-3.ensures c.word-4.ensures c.word-5.ensures c.word-6.ensures c.word-7.ensures c.word-8.ensures;
      lanes =
          below_eight (λ (lane : ℕ). ComesTo (slice_index_or ids lane no_id) (slice_index sizes lane) (slice_index xs lane) p (p + 1) (slice_index at lane))
          (first 0 (omega arith)) (first 1 (omega arith)) (first 2 (omega arith)) (first 3 (omega arith))
          (first 4 (omega arith)) (first 5 (omega arith)) (first 6 (omega arith)) (first 7 (omega arith));
    }

pub loop-left-preserved : goal.loop-left-preserved
loop-left-preserved c =
    let ids = c.args.ids.now in
    let sizes = c.args.sizes.now in
    let xs = c.args.xs.now in
    let p = c.args.place in
    let l = c.loop-left in
    let n = l.left - 1 in
    let words = c.word.result ∷ c.word-2.result ∷ c.word-3.result ∷ c.word-4.result ∷ c.word-5.result ∷ c.word-6.result ∷ c.word-7.result ∷ c.word-8.result ∷ [] in
    let places = n ∷ n ∷ n ∷ n ∷ n ∷ n ∷ n ∷ n ∷ [] in
    let same : (lane : ℕ) → lane < 8 → slice_index places lane ≡ n = below_eight (λ (lane : ℕ). slice_index places lane ≡ n) refl refl refl refl refl refl refl refl in
    record {
      few = omega (arith, l.invariant.few);
      words = l.invariant.words;
      lanes = λ lane h. (
          let id = slice_index_or ids lane no_id in
          let size = slice_index sizes lane in
          let x = slice_index xs lane in
          let low : n < size = omega (arith, c.requires lane h, l.invariant.few, c.loop-left-test.true) in
          let before : ComesTo id size x p (n + 1) (slice_index l.at lane) = subst (λ (k : ℕ). ComesTo id size x p k (slice_index l.at lane)) (omega (arith, c.loop-left-test.true)) (l.invariant.lanes lane h) in
          let hash : slice_index c.hash3_each-hashes.result lane ≡ hash3 x (slice_index words lane) (slice_index places lane) = c.hash3_each-hashes.ensures lane h in
          let of_id : slice_index c.hash3_each-hashes.result lane ≡ hash3 x (word id) n = hash ∙ rw (l.invariant.words lane h, same lane h) refl in
          let is : slice_index c.places_before-at.result lane ≡ place_before (slice_index l.at lane) n (partner id size x n) = c.places_before-at.ensures lane h ∙ ap (λ (k : ℕ). place_before (slice_index l.at lane) n (n + k % (size - n))) of_id in
          subst (λ (k : ℕ). ComesTo id size x p n k) (sym is) (comes_back id size x p n (slice_index l.at lane) low before));
    }

pub returns-clause-members : goal.returns-clause-members
returns-clause-members c lane h =
    let l = c.loop-left in
    let id = slice_index_or c.args.ids.now lane no_id in
    let size = slice_index c.args.sizes.now lane in
    let x = slice_index c.args.xs.now lane in
    let end : l.left ≡ 0 = omega (arith, c.loop-left-test.false) in
    comes_last id size x c.args.place (slice_index l.at lane) (subst (λ (k : ℕ). ComesTo id size x c.args.place k (slice_index l.at lane)) end (l.invariant.lanes lane h))

pub returns-clause-within : goal.returns-clause-within
returns-clause-within c lane h = (c.loop-left.invariant.lanes lane h).within
