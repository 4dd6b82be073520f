-- Receipts, in the ordered map that holds them.
use Rattle.std.proofs.Common.{◌≡◌, ℕ, List, [], ◌∷◌, map, Bool, true, false, cond, if◌then◌else◌, Option, Some, option_map, string_bytes, bytes_eq, Ordering, Less, Equal, Greater, nat_cmp, is_eq, refl, ap, sym, ◌∙◌, ◌++◌}
use Rattle.std.proofs.lemmas.List.{append_assoc}
use Rattle.std.proofs.lemmas.Map.Text.{is_eq-slice_cmp}
use Rattle.std.specs.BTreeMap.{insert_entry, is_at}
use Rattle.std.specs.Cmp.Lexicographic.{slice_cmp}
use Rattle.std.specs.List.{AllZip}
use Rattle.std.specs.Map.{lookup}
use Rattle.std.specs.Ordering.{is_lt, match_ordering}
use Rattle.std.specs.Prelude.{String}
use Rattle.std.specs.declared.alloc.Global.{Global}
use Rattle.std.specs.declared.rc.Rc.{Rc}
use Rattle.tenant_state.proofs.Ordering.{before_rest}
use Rattle.tenant_state.specs.Ordered.{is_ascending, is_before_first}
use Rattle.tenant_state.specs.Receipts.{Receipts, is_before, receipt_of, with_receipt}
use Rattle.tenant_state.specs.declared.receipts.Receipt.{Receipt}

abbrev Kept : Type 0
Kept = Rc Receipt Global

abbrev pub Entry : Type 0
Entry = String Global × Kept

-- an entry, as contracts see it
abbrev pub pair_of : Entry → List ℕ × Receipt
pair_of e = (string_bytes e.0, e.1.value)

abbrev pub pairs_of : List Entry → Receipts
pairs_of es = map pair_of es

-- ---- looking up

found_at : (b c : Bool) (rc : Kept) (o : Option Kept) (later : Option Receipt) → b ≡ c → option_map (λ (r : Kept). r.value) o ≡ later
    → option_map (λ (r : Kept). r.value) (cond b (Some rc) o) ≡ (if c then Some rc.value else later)
found_at true true rc o later same h = refl
found_at false false rc o later same h = h
found_at true false rc o later same h = cc
found_at false true rc o later same h = cc

pub found_in : (number : List ℕ) (es : List Entry) → option_map (λ (r : Kept). r.value) (lookup (is_at (λ (k : String Global). slice_cmp nat_cmp number (string_bytes k))) es) ≡ receipt_of number (pairs_of es)
found_in number [] = refl
found_in number (e ∷ es) =
    found_at (is_eq (slice_cmp nat_cmp number (string_bytes e.0))) (bytes_eq number (string_bytes e.0)) e.1
    (lookup (is_at (λ (k : String Global). slice_cmp nat_cmp number (string_bytes k))) es) (receipt_of number (pairs_of es))
    (is_eq-slice_cmp number (string_bytes e.0)) (found_in number es)

-- ---- inserting

abbrev in_order : String Global → String Global → Ordering
in_order k q = slice_cmp nat_cmp (string_bytes k) (string_bytes q)

placed_at : (o : Ordering) (k : String Global) (rc : Kept) (e : Entry) (es later : List Entry) (rest : Receipts) → pairs_of later ≡ rest
    → pairs_of (match_ordering o ((k, rc) ∷ e ∷ es) ((e.0, rc) ∷ es) (e ∷ later))
    ≡ match_ordering o ((string_bytes k, rc.value) ∷ pair_of e ∷ pairs_of es) (((string_bytes e.0), rc.value) ∷ pairs_of es) (pair_of e ∷ rest)
placed_at Less k rc e es later rest h = refl
placed_at Equal k rc e es later rest h = refl
placed_at Greater k rc e es later rest h = ap (λ r. pair_of e ∷ r) h

pub placed_in : (k : String Global) (rc : Kept) (es : List Entry) → pairs_of (insert_entry in_order es k rc) ≡ with_receipt (string_bytes k) rc.value (pairs_of es)
placed_in k rc [] = refl
placed_in k rc (e ∷ es) =
    placed_at (in_order k e.0) k rc e es (insert_entry in_order es k rc) (with_receipt (string_bytes k) rc.value (pairs_of es)) (placed_in k rc es)

-- ---- receipts in the order of their numbers

at_less : (o : Ordering) (first same later : Receipts) → is_lt o ≡ true → match_ordering o first same later ≡ first
at_less Less first same later h = refl
at_less Equal first same later h = cc
at_less Greater first same later h = cc

-- a receipt whose number comes before all others is put in front of them
pub placed_first : (k : String Global) (rc : Kept) (es : List Entry) → is_before_first is_before (pair_of (k, rc)) (pairs_of es) ≡ true
    → pairs_of (insert_entry in_order es k rc) ≡ pair_of (k, rc) ∷ pairs_of es
placed_first k rc [] h = refl
placed_first k rc (e ∷ es) h = placed_in k rc (e ∷ es) ∙ at_less (in_order k e.0) _ _ _ h

map-append : (xs ys : List Entry) → pairs_of (xs ++ ys) ≡ pairs_of xs ++ pairs_of ys
map-append [] ys = refl
map-append (x ∷ xs) ys = ap (λ l. pair_of x ∷ l) (map-append xs ys)

-- the last of the remaining receipts is put in front of those in the map
pub moved_last : (old new : List Entry) (k : String Global) (rc : Kept) (es after all : List Entry) → old ≡ new ++ (k, rc) ∷ []
    → after ≡ insert_entry in_order es k rc → pairs_of old ++ pairs_of es ≡ pairs_of all → is_ascending is_before (pairs_of all) ≡ true
    → pairs_of new ++ pairs_of after ≡ pairs_of all
moved_last old new k rc es after all last placed whole ordered =
    let parts : pairs_of old ++ pairs_of es ≡ pairs_of new ++ pair_of (k, rc) ∷ pairs_of es =
    ap (λ l. pairs_of l ++ pairs_of es) last
    ∙ (ap (λ l. l ++ pairs_of es) (map-append new ((k, rc) ∷ [])) ∙ append_assoc (pairs_of new) (pair_of (k, rc) ∷ []) (pairs_of es)) in
    let sorted : is_ascending is_before (pairs_of new ++ pair_of (k, rc) ∷ pairs_of es) ≡ true =
    ap (is_ascending is_before) (sym parts ∙ whole) ∙ ordered in
    let first = before_rest is_before (pairs_of new) (pair_of (k, rc)) (pairs_of es) sorted in
    ap (λ l. pairs_of new ++ l) (ap pairs_of placed ∙ placed_first k rc es first) ∙ (sym parts ∙ whole)

-- ---- copying

pub copied_in : (es fs : List Entry) → AllZip (λ (p q : Entry). (string_bytes q.0 ≡ string_bytes p.0) × (q.1.value ≡ p.1.value)) es fs → pairs_of fs ≡ pairs_of es
copied_in [] [] h = refl
copied_in [] (f ∷ fs) h = absurd h
copied_in (e ∷ es) [] h = absurd h
copied_in (e ∷ es) (f ∷ fs) h = let head = h.0 in let tail : pairs_of fs ≡ pairs_of es = copied_in es fs h.1 in rw (head.0, head.1, tail) refl

-- ---- inventories

-- a copy of a list of shared values has the same values
pub same_shared : {A : Type 0} (vs ws : List (Rc A Global)) → AllZip (λ (p q : Rc A Global). q.value ≡ p.value) vs ws
    → map (λ (v : Rc A Global). v.value) ws ≡ map (λ (v : Rc A Global). v.value) vs
same_shared [] [] h = refl
same_shared [] (w ∷ ws) h = absurd h
same_shared (v ∷ vs) [] h = absurd h
same_shared (v ∷ vs) (w ∷ ws) h = let head = h.0 in let tail = same_shared vs ws h.1 in rw (head, tail) refl
