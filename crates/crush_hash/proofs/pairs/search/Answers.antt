use Rattle.std.proofs.Common.{◌≡◌, ℕ, ◌+◌, ◌-◌, ◌<◌, ◌≤◌, length, slice_index_or, Bool, true, false, refl, arith, sym, ◌∙◌, ◌⊎◌, inl, inr}
use Rattle.std.proofs.Math.Nat.{eq-or-lt_of_le}
use Rattle.std.proofs.lemmas.Bool.{false≢true}
use Rattle.crush_hash.specs.Private.Pairs.{no_pair, index}
use Rattle.crush_hash.proofs.Differing.{index_is, member_there, member_none}
use Rattle.crush_hash.proofs.pairs.search.Goals as goal
use Rattle.crush_hash.proofs.pairs.search.Goals.{then-pair-place, else-pair-place, then-pair-place-2, else-pair-place-2}

pub loop-i-init : goal.loop-i-init
loop-i-init c = record {
  within = omega arith;
  above = omega arith;
  below = c.requires.lower;
  higher = λ j a b. absurd (omega (arith, a, b));
  there = λ e. absurd (false≢true e);
  absent = λ e. (refl, λ j a b. absurd (omega (arith, a, b)));
}

pub loop-i-preserved : goal.loop-i-preserved
loop-i-preserved c =
    let pairs = c.args.pairs.now in
    let place = c.args.place in
    let i = c.loop-i.i in
    let to = c.loop-i.to in
    let inv = c.loop-i.invariant in
    let rising = c.requires.rising in
    let inside : i < length pairs = omega (arith, c.loop-i-test.true) in
    let last : i + 1 - 1 ≡ i = omega arith in
    elim c.if-pair-place.branch [
      | then-pair-place w ↦ elim c.if-pair-place-2.branch [
        | then-pair-place-2 v ↦ absurd (omega (arith, w.if-pair-place.true, v.if-pair-place-2.true))
        | else-pair-place-2 v ↦ rw (w.to-is, v.member-is, v.found-is) (record {
          within = omega arith;
          above = omega arith;
          below = λ some. rw last w.if-pair-place.true;
          higher = λ j a b. absurd (omega (arith, a, b));
          there = λ e. (let at = inv.there e in let up = rising to i at.0 inside in absurd (omega (arith, at.1, up, w.if-pair-place.true)));
          absent = λ e. ((inv.absent e).0, λ j a b. absurd (omega (arith, a, b)));
        })
      ]
      | else-pair-place w ↦ (
          let higher : (j : ℕ) → to ≤ j → j < i + 1 → place ≤ (slice_index_or pairs j no_pair).0 = λ j a b. (
          let le : j ≤ i = omega (arith, b) in
          elim (eq-or-lt_of_le le) [
            | inl same ↦ rw same w.if-pair-place.false
            | inr less ↦ inv.higher j a less
          ])
          in
          elim c.if-pair-place-2.branch [
            | then-pair-place-2 v ↦ rw (w.to-is, v.member-is, v.found-is) (
                let here : to ≡ i = elim (eq-or-lt_of_le inv.within) [
                  | inl same ↦ same
                  | inr less ↦ (let up = rising to i less inside in absurd (omega (arith, up, inv.higher to (omega arith) less, v.if-pair-place-2.true)))
                ] in
                record {
                  within = omega (arith, inv.within);
                  above = inv.above;
                  below = inv.below;
                  higher = higher;
                  there = λ e. (omega (arith, inv.within), rw here v.if-pair-place-2.true, rw here refl);
                  absent = λ e. absurd (false≢true (sym e));
                })
            | else-pair-place-2 v ↦ rw (w.to-is, v.member-is, v.found-is) (record {
              within = omega (arith, inv.within);
              above = inv.above;
              below = inv.below;
              higher = higher;
              there = λ e. (let at = inv.there e in (omega (arith, at.0), at.1, at.2));
              absent = λ e. (let at = inv.absent e in (
                at.0,
                λ j a b. (
                    let le : j ≤ i = omega (arith, b) in
                    elim (eq-or-lt_of_le le) [
                      | inl same ↦ rw same v.if-pair-place-2.false
                      | inr less ↦ at.1 j a less
                    ]),
              ));
            })
          ])
    ]

pub returns-clause-value : goal.returns-clause-value
returns-clause-value c =
    index_is c.args.pairs.now c.args.place c.loop-i.to c.requires.rising (omega arith) (λ j a b. c.loop-i.invariant.higher j a (omega (arith, b))) c.loop-i.invariant.below

either_bool : (b : Bool) → (b ≡ true) ⊎ (b ≡ false)
either_bool true = inl refl
either_bool false = inr refl

pub returns-clause-member : goal.returns-clause-member
returns-clause-member c =
    let pairs = c.args.pairs.now in
    let inv = c.loop-i.invariant in
    let is : c.loop-i.to ≡ index pairs c.args.place =
    index_is pairs c.args.place c.loop-i.to c.requires.rising (omega arith) (λ j a b. inv.higher j a (omega (arith, b))) inv.below in
    elim (either_bool c.loop-i.found) [
      | inl found ↦ (let at = inv.there found in sym (member_there pairs c.loop-i.to c.args.place is (omega (arith, at.0)) at.1 ∙ at.2))
      | inr absent ↦ (let at = inv.absent absent in at.0 ∙ sym (member_none pairs c.loop-i.to c.args.place is (λ j a b. at.1 j a (omega (arith, b)))))
    ]
