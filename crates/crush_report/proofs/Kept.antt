-- What is stored of the places of a pool's groups.
use denote.Ref.{Bor}
use Rattle.std.specs.Slice.{IsGetRangeResult}
use Rattle.std.proofs.Common.{◌≡◌, ◌<◌, ◌≤◌, ◌+◌, ◌-◌, ◌++◌, ◌∷◌, ◌∙◌, ℕ, List, [], true, length, take, drop, Option, None, Some, IfSome, inl, inr, refl, sym, ap, arith, length-append, length-drop}
use Rattle.std.specs.Prelude.{slice_index_or, slice_range}
use Rattle.std.proofs.Math.Seq.{get_or-append_seam}
use Rattle.std.proofs.lemmas.Bool.{cases_lt}
use Rattle.std.proofs.lemmas.List.{drop-append-le, get_or_append_left, take-append-le, take_all}
use Rattle.std.proofs.lemmas.Bool.Decides.{nat_tests}
use Rattle.crush_bucket.specs.Tables.{tables_of}
use Rattle.crush_choose.specs.Marks.{Slot}
use Rattle.crush_choose.specs.Weights.{weights_of}
use Rattle.crush_choose.specs.Rules.{rule_answer}
use Rattle.crush_pool.specs.Placers.{PoolOnMap, steps_of}
use Rattle.crush_pool.specs.Pools.{is_pool, seed_of}
use Rattle.crush_pool.specs.States.{reweights}
use Rattle.crush_pool.specs.declared.pool.PoolParts.{PoolParts}
use Rattle.crush_report.specs.OnMaps.{answer_on}
use Rattle.crush_report.specs.Private.Places.{AreAnswers, AreInOrder, IsPart}
use Rattle.crush_report.specs.declared.answers.Answers.{Answers}
use Rattle.crush_report.proofs.Short.{size_few}

-- ---- parts of slots

-- a part stays where more is put behind
part_stays : (slots more : List Slot) (start end : ℕ) (part : List Slot) → IsPart slots start end part → IsPart (slots ++ more) start end part
part_stays slots more start end part is =
    let short : end - start ≤ length (drop start slots) = omega (arith, is.within, is.ordered, length-drop start slots) in
    record {
      ordered = is.ordered;
      within = omega (arith, is.within, length-append slots more);
      same = ap (take (end - start)) (drop-append-le start slots more (omega (arith, is.within, is.ordered))) ∙ take-append-le (end - start) (drop start slots) more short ∙ is.same;
    }

pub drop_first : (slots more : List Slot) → drop (length slots) (slots ++ more) ≡ more
drop_first [] more = refl
drop_first (slot ∷ slots) more = drop_first slots more

-- what is put behind is the last part
last_part : (slots more : List Slot) → IsPart (slots ++ more) (length slots) (length (slots ++ more)) more
last_part slots more =
    let all : length more ≤ length (slots ++ more) - length slots = omega (arith, length-append slots more) in
    record {
      ordered = omega (arith, length-append slots more);
      within = omega arith;
      same = ap (take (length (slots ++ more) - length slots)) (drop_first slots more) ∙ take_all (length (slots ++ more) - length slots) more all;
    }

-- one more answer
pub one_more : (p : PoolOnMap) (slots : List Slot) (starts : List ℕ) (place : ℕ) (answer : List Slot) → length starts ≡ place + 1 → slice_index_or starts place 0 ≡ length slots
    → answer ≡ answer_on p place → AreInOrder p slots starts → AreInOrder p (slots ++ answer) (starts ++ length (slots ++ answer) ∷ [])
one_more p slots starts place answer len last is each = λ k lt.
    let end = length (slots ++ answer) in
    let more : k + 1 < length starts + 1 = omega (arith, lt, length-append starts (end ∷ [])) in
    let start : slice_index_or (starts ++ end ∷ []) k 0 ≡ slice_index_or starts k 0 = get_or_append_left starts (end ∷ []) 0 k (omega (arith, more)) in
    elim (cases_lt k place) [
      | inl before ↦
          (let next : slice_index_or (starts ++ end ∷ []) (k + 1) 0 ≡ slice_index_or starts (k + 1) 0 = get_or_append_left starts (end ∷ []) 0 (k + 1) (omega (arith, before, len)) in
          let was = each k (omega (arith, before, len)) in
          rw (start, next) (part_stays slots answer (slice_index_or starts k 0) (slice_index_or starts (k + 1) 0) (answer_on p k) was))
      | inr after ↦
          (let at : k ≡ place = omega (arith, after, more, len) in
          let first : slice_index_or (starts ++ end ∷ []) k 0 ≡ length slots = start ∙ rw at last in
          let seam : k + 1 ≡ length starts = omega (arith, at, len) in
          let next : slice_index_or (starts ++ end ∷ []) (k + 1) 0 ≡ end = rw seam (get_or-append_seam starts end [] 0) in
          let answered : answer_on p k ≡ answer = rw at (sym is) in
          rw (first, next, answered) (last_part slots answer))
    ]

-- the last start
pub last_start : (starts : List ℕ) (place end : ℕ) → length starts ≡ place → slice_index_or (starts ++ end ∷ []) place 0 ≡ end
last_start starts place end len = rw (sym len) (get_or-append_seam starts end [] 0)

-- ---- answers

places_some : (p : PoolParts) → is_pool p ≡ true → 0 < p.pgp_num
places_some p is = grind (arith, nat_tests, is)

-- nothing is stored
pub none_kept : (p : PoolOnMap) (a : Answers) → is_pool p.pool ≡ true → a.starts.items ≡ [] → AreAnswers p a
none_kept p a valid none =
    record {
      some = places_some p.pool valid;
      size = size_few p.pool valid;
      each = λ place lt. let len : length a.starts.items ≡ 0 = ap length none in absurd (omega (arith, lt, len));
    }

-- the answer for the place of a group is that for the group
pub answer_kept : (p : PoolOnMap) (a : Answers) (group place : ℕ) (part : List Slot) → AreAnswers p a → seed_of p.pool group ≡ seed_of p.pool place → place + 1 < length a.starts.items
    → part ≡ slice_range a.slots.items (slice_index_or a.starts.items place 0) (slice_index_or a.starts.items (place + 1) 0) → part ≡ answer_on p group
answer_kept p a group place part are seed lt is =
    is ∙ (are.each place lt).same
    ∙ ap (λ (x : ℕ). rule_answer (tables_of p.map) (weights_of (reweights p.states)) (steps_of p) x p.pool.size) (sym seed)

-- the part that `get` gives
pub part_kept : (slots : List Slot) (start end : ℕ) (found : Option (Bor (List Slot))) (want : List Slot) → IsGetRangeResult slots start end found
    → ((part : List Slot) → part ≡ slice_range slots start end → part ≡ want) → IfSome found (λ part. part.now ≡ want)
part_kept slots start end None want is then = tt
part_kept slots start end (Some part) want is then = then part.now is.0.2
