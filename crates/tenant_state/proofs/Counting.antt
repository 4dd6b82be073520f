-- A receipt that is added is found again, adds one, and leaves the others.
use Rattle.std.proofs.Common.{◌≡◌, ℕ, suc, List, [], ◌∷◌, length, true, false, if◌then◌else◌, Some, None, bytes_eq, Ordering, Less, Equal, Greater, nat_cmp, is_eq, refl, sym, ap, arith}
use Rattle.std.proofs.lemmas.Map.Text.{is_eq-slice_cmp}
use Rattle.std.proofs.lemmas.Slice.Eq.{bytes_eq-Decides}
use Rattle.std.specs.Cmp.Lexicographic.{slice_cmp}
use Rattle.std.specs.Ordering.{match_ordering}
use Rattle.tenant_state.specs.Receipts.{Receipts, receipt_of, with_receipt}
use Rattle.tenant_state.specs.declared.receipts.Receipt.{Receipt}

-- ---- bytes

pub same_bytes : (xs : List ℕ) → bytes_eq xs xs ≡ true
same_bytes xs = grind (arith, bytes_eq-Decides xs xs)

pub other_bytes : (n m k : List ℕ) → bytes_eq m k ≡ true → bytes_eq n m ≡ false → bytes_eq n k ≡ false
other_bytes n m k same other = grind (arith, bytes_eq-Decides n k, bytes_eq-Decides n m, bytes_eq-Decides m k, same, other)

-- ---- a receipt that is added

abbrev Entry : Type 0
Entry = List ℕ × Receipt

found_at : (o : Ordering) (n : List ℕ) (r : Receipt) (e : Entry) (es later : Receipts) → is_eq o ≡ bytes_eq n e.0 → receipt_of n later ≡ Some r
    → receipt_of n (match_ordering o ((n, r) ∷ e ∷ es) ((e.0, r) ∷ es) (e ∷ later)) ≡ Some r
found_at Less n r e es later same h = rw (same_bytes n) refl
found_at Equal n r e es later same h = rw (← same) refl
found_at Greater n r e es later same h = rw (← same) h

pub found : (n : List ℕ) (r : Receipt) (es : Receipts) → receipt_of n (with_receipt n r es) ≡ Some r
found n r [] = rw (same_bytes n) refl
found n r (e ∷ es) = found_at (slice_cmp nat_cmp n e.0) n r e es (with_receipt n r es) (is_eq-slice_cmp n e.0) (found n r es)

kept_at : (o : Ordering) (n m : List ℕ) (r : Receipt) (e : Entry) (es later : Receipts) → is_eq o ≡ bytes_eq m e.0 → bytes_eq n m ≡ false → receipt_of n later ≡ receipt_of n es
    → receipt_of n (match_ordering o ((m, r) ∷ e ∷ es) ((e.0, r) ∷ es) (e ∷ later)) ≡ receipt_of n (e ∷ es)
kept_at Less n m r e es later same other h = rw other refl
kept_at Equal n m r e es later same other h = rw (other_bytes n m e.0 (sym same) other) refl
kept_at Greater n m r e es later same other h = ap (λ o. if bytes_eq n e.0 then Some e.1 else o) h

pub kept : (n m : List ℕ) (r : Receipt) (es : Receipts) → bytes_eq n m ≡ false → receipt_of n (with_receipt m r es) ≡ receipt_of n es
kept n m r [] other = rw other refl
kept n m r (e ∷ es) other = kept_at (slice_cmp nat_cmp m e.0) n m r e es (with_receipt m r es) (is_eq-slice_cmp m e.0) other (kept n m r es other)

grown_at : (o : Ordering) (n : List ℕ) (r : Receipt) (e : Entry) (es later : Receipts) → is_eq o ≡ bytes_eq n e.0 → receipt_of n (e ∷ es) ≡ None
    → (receipt_of n es ≡ None → length later ≡ suc (length es)) → length (match_ordering o ((n, r) ∷ e ∷ es) ((e.0, r) ∷ es) (e ∷ later)) ≡ suc (suc (length es))
grown_at Less n r e es later same none h = refl
grown_at Equal n r e es later same none h = let both : Some e.1 ≡ None = rw (← same) at none in cc
grown_at Greater n r e es later same none h = ap suc (h (rw (← same) at none))

pub grown : (n : List ℕ) (r : Receipt) (es : Receipts) → receipt_of n es ≡ None → length (with_receipt n r es) ≡ suc (length es)
grown n r [] none = refl
grown n r (e ∷ es) none = grown_at (slice_cmp nat_cmp n e.0) n r e es (with_receipt n r es) (is_eq-slice_cmp n e.0) none (grown n r es)
