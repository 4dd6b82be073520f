-- Parts of a row that permutations share.
use Rattle.std.proofs.Common.{◌≡◌, ℕ, ◌+◌, ◌-◌, ◌<◌, ◌≤◌, List, [], ◌∷◌, ◌++◌, length, take, drop, slice_range, slice_index_or, slice_set, refl, ap, sym, subst, ◌∙◌, arith, ◌⊎◌, inl, inr}
use Rattle.std.proofs.lemmas.List.{take-take, drop-drop, drop-take, length-drop, length-take-le, get_or-set_same, get_or-set_other, get_or_default, length-set, append-nil, drop_all}
use Rattle.std.proofs.lemmas.List.Elements.{All-push}
use Rattle.std.proofs.lemmas.List.Quantifiers.{all_pairs_push}
use Rattle.std.proofs.Math.Seq.{take-length}
use Rattle.crush_hash.specs.declared.perms.Slot.{Slot}
use Rattle.crush_hash.specs.Private.Pairs.{Pair}
use Rattle.crush_hash.specs.Private.Parts.{IsPart, AreParts, AreNew, IsNew, HaveRoom}
use Rattle.crush_hash.specs.Private.Reached.{IsReached, room_of}
use Rattle.crush_hash.proofs.Differing.{either_way}
use Rattle.crush_hash.proofs.Reaching.{new_is}

-- what stands between two places that are before one up to which nothing changed
range_before : (xs ys : List Pair) (a b s : ℕ) → a ≤ b → b ≤ s → take s ys ≡ take s xs → slice_range ys a b ≡ slice_range xs a b
range_before xs ys a b s rise low same =
    let k = a + (b - a) in
    let le : k ≤ s = omega (arith, rise, low) in
    let first : take k ys ≡ take k xs = sym (take-take k s ys le) ∙ ap (λ (l : List Pair). take k l) same ∙ take-take k s xs le in
    sym (drop-take a (b - a) ys) ∙ ap (λ (l : List Pair). drop a l) first ∙ drop-take a (b - a) xs

-- and behind one from which on nothing changed
range_behind : (xs ys : List Pair) (a b e : ℕ) → e ≤ a → drop e ys ≡ drop e xs → slice_range ys a b ≡ slice_range xs a b
range_behind xs ys a b e high same =
    let k = a - e in
    let is : e + k ≡ a = omega (arith, high) in
    let rest : drop (e + k) ys ≡ drop (e + k) xs = sym (drop-drop k e ys) ∙ ap (λ (l : List Pair). drop k l) same ∙ drop-drop k e xs in
    ap (λ (l : List Pair). take (b - a) l) (subst (λ (n : ℕ). drop n ys ≡ drop n xs) is rest)

-- ---- a slot that has made exchanges

-- it has the same part, and so has each other slot
same_part : (slots : List Slot) (p i : ℕ) (t d : Slot) → p < length slots → t.start ≡ (slice_index_or slots p d).start → t.end ≡ (slice_index_or slots p d).end
    → ((slice_index_or (slice_set slots p t) i d).start ≡ (slice_index_or slots i d).start) × ((slice_index_or (slice_set slots p t) i d).end ≡ (slice_index_or slots i d).end)
same_part slots p i t d low start end = elim (either_way i p) [
  | inl same ↦ rw (same, get_or-set_same slots p t d low) (start, end)
  | inr other ↦ rw (get_or-set_other slots p i t d other) (refl, refl)
]

pub parts_after : (slots : List Slot) (row after : List Pair) (p : ℕ) (s t : Slot) → AreParts slots row → p < length slots → slice_index_or slots p s ≡ s → t.start ≡ s.start → t.end ≡ s.end → IsPart t after → length after ≡ length row
    → take s.start after ≡ take s.start row → drop s.end after ≡ drop s.end row → AreParts (slice_set slots p t) after
parts_after slots row after p s t parts low has start end part len before behind =
    let there : (d : Slot) → slice_index_or slots p d ≡ s = λ d. get_or_default slots p d s low ∙ has in
    record {
      each = λ i d within. (elim (either_way i p) [
        | inl same ↦ rw (same, get_or-set_same slots p t d low) part
        | inr other ↦
            let u = slice_index_or slots i d in
            let old_low : i < length slots = omega (arith, within, length-set slots p t) in
            let old = parts.each i d old_low in
            let either : (i < p) ⊎ (p < i) = grind (arith, other) in
            let same : slice_range after u.start u.end ≡ slice_range row u.start u.end = elim either [
              | inl less ↦ (let apart : u.end ≤ s.start = rw (there d) at (parts.apart i p d less low) in range_before row after u.start u.end s.start old.rises apart before)
              | inr more ↦ (let apart : s.end ≤ u.start = rw (there d) at (parts.apart p i d more old_low) in range_behind row after u.start u.end s.end apart behind)
            ] in
            rw (get_or-set_other slots p i t d other) (record { rises = old.rises; within = omega (arith, old.within, len); reached = subst (λ (r : List Pair). IsReached u.reached r) (sym same) old.reached })
      ]);
      apart = λ i j d less below.
          (let starts : t.start ≡ (slice_index_or slots p d).start = rw (there d) start in
          let ends : t.end ≡ (slice_index_or slots p d).end = rw (there d) end in
          let first = same_part slots p i t d low starts ends in
          let second = same_part slots p j t d low starts ends in
          let apart = parts.apart i j d less (omega (arith, below, length-set slots p t)) in
          omega (arith, apart, first.1, second.0));
    }

-- ---- new slots

-- new slots have their parts in any row that is long enough
pub new_parts : (slots : List Slot) (row : List Pair) → AreNew slots (length row) → AreParts slots row
new_parts slots row new = record {
  each = λ i d within.
      (let s = slice_index_or slots i d in
      let is = new.each i d within in
      let rest = length-drop s.start row in
      let part : length (slice_range row s.start s.end) ≡ s.end - s.start = length-take-le (s.end - s.start) (drop s.start row) (omega (arith, rest, is.within)) in
      record { rises = omega (arith, is.room); within = is.within; reached = new_is s.reached (slice_range row s.start s.end) is.empty is.small (omega (arith, part, is.room)) });
  apart = new.apart;
}

-- ---- the room of a part

-- a slot that has the same part as before
pub room_after : (size : ℕ) (slots : List Slot) (p : ℕ) (s t : Slot) → HaveRoom size slots → p < length slots → slice_index_or slots p s ≡ s → t.start ≡ s.start → t.end ≡ s.end → HaveRoom size (slice_set slots p t)
room_after size slots p s t have low has start end i d within =
    let there : slice_index_or slots p d ≡ s = get_or_default slots p d s low ∙ has in
    let same = same_part slots p i t d low (rw there start) (rw there end) in
    let old = have i d (omega (arith, within, length-set slots p t)) in
    omega (arith, old, same.0, same.1)

-- ---- what is written back

-- a row that is written back as a whole
pub whole : (row after : List Pair) (len : ℕ) → len ≡ length row → length after ≡ length row → take len (after ++ drop (length after) row) ≡ after
whole row after len is same =
    let all : len ≡ length after = is ∙ sym same in
    rw (drop_all (length after) row (omega (arith, same)), append-nil after, all) (take-length after)
