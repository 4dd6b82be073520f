use Rattle.std.proofs.Common.{◌≡◌, ℕ, ◌<◌, ◌≤◌, ◌^◌, max, nat_lt, nat_cmp, Bool, true, false, Less, Equal, Greater, slice_index, slice_index_or, inl, inr, refl, ap, sym, subst, ◌∙◌, arith}
use Rattle.std.specs.Prelude.{◌==◌, cond}
use Rattle.std.specs.Ordering.{is_lt, ord_max}
use Rattle.std.proofs.lemmas.Bool.Decides.{nat_tests}
use Rattle.std.proofs.Math.Nat.{eq-or-lt_of_le}
use Rattle.std.proofs.lemmas.List.{get_or_default, length-set}
use Rattle.crush_bucket.specs.Bucket.{word}
use Rattle.crush_bucket.specs.Private.Walks.{tree_height, IsOnWay}
use Rattle.crush_bucket.proofs.Ways.{way_begins}
use Rattle.crush_hash.proofs.MemberLanes.{more_set}
use Rattle.crush_bucket.proofs.walks.begin.Goals as goal

-- what `max` answers
greater_of : (a b : ℕ) → ord_max nat_cmp a b ≡ max a b
greater_of a b = by (nat_lt b a) (b == a) refl
  where
    by : (t s : Bool) → nat_lt b a ≡ t → cond (is_lt (cond t Less (cond s Equal Greater))) a b ≡ max a b
    by true s h = (let lt : b < a = grind (arith, nat_tests, h) in omega (arith, lt))
    by false true h = (let le : a ≤ b = grind (arith, nat_tests, h) in omega (arith, le))
    by false false h = (let le : a ≤ b = grind (arith, nat_tests, h) in omega (arith, le))

pub loop-lane-preserved : goal.loop-lane-preserved
loop-lane-preserved c =
    let l = c.loop-lane in
    let trees = c.args.trees.now in
    let tree = c.index-trees-lane.result in
    let at : (d : _) → slice_index_or trees l.lane tree ≡ slice_index_or trees l.lane d = λ d. get_or_default trees l.lane tree d (omega arith) in
    let top : c.max-highest.result ≡ ord_max nat_cmp l.highest c.height.result = c.max-highest.ensures in
    let greater = greater_of l.highest c.height.result in
    record {
      words_size = length-set l.words l.lane c.word.result ∙ l.invariant.words_size;
      roots_size = length-set l.roots l.lane c.root.result ∙ l.invariant.roots_size;
      words = λ n d low. (
          let here : c.word.result ≡ word (slice_index_or trees l.lane d).id = c.word.ensures ∙ (ap word c.id.ensures ∙ ap (λ t. word t.id) (at d)) in
          more_set (λ (n word_at : ℕ). word_at ≡ word (slice_index_or trees n d).id) l.words l.lane c.word.result 0 (omega (arith, l.invariant.words_size)) (λ n before. l.invariant.words n d before) here n low);
      roots = λ n d low. (
          let here : c.root.result ≡ 2 ^ tree_height (slice_index_or trees l.lane d) = c.root.ensures ∙ ap (λ t. 2 ^ tree_height t) (at d) in
          more_set (λ (n root : ℕ). root ≡ 2 ^ tree_height (slice_index_or trees n d)) l.roots l.lane c.root.result 0 (omega (arith, l.invariant.roots_size)) (λ n before. l.invariant.roots n d before) here n low);
      high = λ n d low. (
          let le : n ≤ l.lane = omega arith in elim (eq-or-lt_of_le le) [
            | inl same ↦ (
                let here : tree_height (slice_index_or trees l.lane d) ≡ c.height.result = ap (λ t. tree_height t) (sym (at d)) ∙ sym c.height.ensures in
                let more : tree_height (slice_index_or trees l.lane d) ≤ c.max-highest.result = omega (arith, here, top, greater) in
                rw same more)
            | inr lower ↦ (
                let before = l.invariant.high n d lower in
                let more : tree_height (slice_index_or trees n d) ≤ c.max-highest.result = omega (arith, before, top, greater) in
                more)
          ]);
    }

pub returns-clause-roots : goal.returns-clause-roots
returns-clause-roots c lane d x r low =
    let l = c.loop-lane in
    let b = (slice_index_or c.args.trees.now lane d) in
    let high : tree_height b ≤ l.highest = l.invariant.high lane d (omega arith) in
    let root : slice_index l.roots lane ≡ 2 ^ tree_height b = l.invariant.roots lane d (omega arith) in
    subst (λ (n : ℕ). IsOnWay b x r l.highest n) (sym root) (way_begins b x r l.highest high)
