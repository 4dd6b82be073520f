-- What stays true of receipts in the order of their numbers when one is added.
use Rattle.std.proofs.Common.{◌≡◌, ℕ, List, [], ◌∷◌, Bool, true, bytes_eq, Ordering, Less, Equal, Greater, nat_cmp, is_eq, refl, sym, ap, subst, ◌∙◌, arith}
use Rattle.std.proofs.lemmas.Cmp.{nat_list_cmp_total}
use Rattle.std.proofs.lemmas.Map.Text.{is_eq-slice_cmp}
use Rattle.std.proofs.lemmas.Slice.Eq.{bytes_eq-Decides}
use Rattle.std.specs.Cmp.Lexicographic.{slice_cmp}
use Rattle.std.specs.List.{list_all}
use Rattle.std.specs.Ordering.{is_lt, match_ordering, ordering_reverse}
use Rattle.tenant_state.proofs.Staying.{both_true}
use Rattle.tenant_state.specs.Ordered.{is_ascending, is_before_first}
use Rattle.tenant_state.specs.Receipts.{Receipts, is_before, with_receipt}
use Rattle.tenant_state.specs.declared.receipts.Receipt.{Receipt}

same_key : (n m : List ℕ) → slice_cmp nat_cmp n m ≡ Equal → m ≡ n
same_key n m h =
    let same : bytes_eq n m ≡ true = sym (is_eq-slice_cmp n m) ∙ ap is_eq h in
    grind (arith, bytes_eq-Decides n m, same)

greater : (n m : List ℕ) → slice_cmp nat_cmp n m ≡ Greater → is_lt (slice_cmp nat_cmp m n) ≡ true
greater n m h = ap is_lt (nat_list_cmp_total.antisymm m n ∙ ap ordering_reverse h)

pub all_received : (t : List ℕ × Receipt → Bool) (n : List ℕ) (r : Receipt) (es : Receipts) → t (n, r) ≡ true → list_all t es ≡ true → list_all t (with_receipt n r es) ≡ true
all_received t n r [] one all = rw one refl
all_received t n r (e ∷ es) one all =
    let are = both_true (t e) (list_all t es) all in placed (slice_cmp nat_cmp n e.0) refl are.0 are.1 (all_received t n r es one are.1)
  where
    placed : (o : Ordering) → slice_cmp nat_cmp n e.0 ≡ o → t e ≡ true → list_all t es ≡ true → list_all t (with_receipt n r es) ≡ true
        → list_all t (match_ordering o ((n, r) ∷ e ∷ es) ((e.0, r) ∷ es) (e ∷ with_receipt n r es)) ≡ true
    placed Less is first rest later = rw (one, first, rest) refl
    placed Equal is first rest later = let same : t (e.0, r) ≡ true = subst (λ k. t (k, r) ≡ true) (sym (same_key n e.0 is)) one in rw (same, rest) refl
    placed Greater is first rest later = rw (first, later) refl

first_received : (n : List ℕ) (r : Receipt) (e : List ℕ × Receipt) (es : Receipts) → is_before e (n, r) ≡ true → is_before_first is_before e es ≡ true
    → is_before_first is_before e (with_receipt n r es) ≡ true
first_received n r e [] h g = h
first_received n r e (f ∷ fs) h g = placed (slice_cmp nat_cmp n f.0)
  where
    placed : (o : Ordering) → is_before_first is_before e (match_ordering o ((n, r) ∷ f ∷ fs) ((f.0, r) ∷ fs) (f ∷ with_receipt n r fs)) ≡ true
    placed Less = h
    placed Equal = g
    placed Greater = g

before_same : (e f : List ℕ × Receipt) (r : Receipt) (fs : Receipts) → is_before_first is_before f fs ≡ true → is_before_first is_before (f.0, r) fs ≡ true
before_same e f r [] h = refl
before_same e f r (g ∷ gs) h = h

pub ascending_received : (n : List ℕ) (r : Receipt) (es : Receipts) → is_ascending is_before es ≡ true → is_ascending is_before (with_receipt n r es) ≡ true
ascending_received n r [] h = refl
ascending_received n r (e ∷ es) h =
    let are = both_true (is_before_first is_before e es) (is_ascending is_before es) h in
    placed (slice_cmp nat_cmp n e.0) refl are.0 are.1 (ascending_received n r es are.1)
  where
    placed : (o : Ordering) → slice_cmp nat_cmp n e.0 ≡ o → is_before_first is_before e es ≡ true → is_ascending is_before es ≡ true
        → is_ascending is_before (with_receipt n r es) ≡ true
        → is_ascending is_before (match_ordering o ((n, r) ∷ e ∷ es) ((e.0, r) ∷ es) (e ∷ with_receipt n r es)) ≡ true
    placed Less is first rest later = let less : is_lt (slice_cmp nat_cmp n e.0) ≡ true = ap is_lt is in rw (less, first, rest) refl
    placed Equal is first rest later = let same = before_same e e r es first in rw (same, rest) refl
    placed Greater is first rest later = let head = first_received n r e es (greater n e.0 is) first in rw (head, later) refl
