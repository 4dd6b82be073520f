-- What comes to a place of a permutation, followed back through the exchanges.
use Rattle.std.proofs.Common.{◌≡◌, ◌≢◌, ℕ, ◌+◌, ◌<◌, slice_index, slice_index_or, refl, ap, sym, ◌∙◌, arith, ◌⊎◌, inl, inr}
use Rattle.std.specs.List.{range_with_len, swap}
use Rattle.std.proofs.lemmas.List.FromFn.{get_or-range_with_len}
use Rattle.std.proofs.lemmas.List.Edits.{swapped_from_swap}
use Rattle.crush_types.specs.declared.ItemId.{ItemId}
use Rattle.crush_hash.specs.Permutation.{permutation, after_swaps, partner}
use Rattle.crush_hash.specs.Private.Eight.{ComesTo, place_before}
use Rattle.crush_hash.proofs.Members.{length-after_swaps, after_swaps_more, member_is, partner_within}

-- before any exchange is undone
pub comes_first : (id : ItemId) (size x place : ℕ) → place < size → ComesTo id size x place (place + 1) place
comes_first id size x place h = record { within = h; comes = member_is id size x place (place + 1) h (omega (arith, h)) (omega arith) }

-- what stands at a place after one exchange more
moved : (id : ItemId) (size x n at : ℕ) → n < size → at < size → slice_index_or (after_swaps id size x (n + 1)) at 0 ≡ slice_index_or (after_swaps id size x n) (place_before at n (partner id size x n)) 0
moved id size x n at h low =
    let xs = after_swaps id size x n in
    let q = partner id size x n in
    let w = partner_within id size x n h in
    let len = length-after_swaps id size x n in
    let s = swapped_from_swap xs (swap xs n q) n q 0 (omega (arith, len, h)) (omega (arith, len, w)) refl in
    let more = ap (λ (l : _). slice_index_or l at 0) (sym (after_swaps_more id size x n)) in
    let either : (at ≡ n) ⊎ ((at ≢ n) × (at ≡ q)) ⊎ ((at ≢ n) × (at ≢ q)) = grind arith in
    more ∙ elim either [
      | inl e ↦
          let p : place_before at n q ≡ q = grind (arith, e) in
          rw (p, e) s.0
      | inr (inl e) ↦
          let p : place_before at n q ≡ n = grind (arith, e) in
          rw (p, e.1) s.1
      | inr (inr e) ↦
          let p : place_before at n q ≡ at = grind (arith, e) in
          rw p (s.2 at e.0 e.1)
    ]

-- one exchange is undone
pub comes_back : (id : ItemId) (size x place n at : ℕ) → n < size → ComesTo id size x place (n + 1) at → ComesTo id size x place n (place_before at n (partner id size x n))
comes_back id size x place n at h c =
    let w = partner_within id size x n h in
    let low : place_before at n (partner id size x n) < size = grind (arith, w, h, c.within) in
    record { within = low; comes = sym (moved id size x n at h c.within) ∙ c.comes }

-- all exchanges are undone
pub comes_last : (id : ItemId) (size x place at : ℕ) → ComesTo id size x place 0 at → at ≡ slice_index (permutation id size x) place
comes_last id size x place at c =
    let is : slice_index_or (range_with_len 0 size) at 0 ≡ at = get_or-range_with_len 0 size at 0 c.within ∙ omega arith in
    sym is ∙ c.comes
