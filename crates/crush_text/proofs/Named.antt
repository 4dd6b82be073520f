-- A table of places with one more item.
use Rattle.std.proofs.Common.{◌≡◌, ◌∙◌, ◌⊎◌, inl, inr, ◌<◌, ◌≤◌, ◌+◌, ◌==◌, ◌++◌, ◌∷◌, [], ℕ, Bool, true, false, cond, Option, Some, None, is_some, List, refl, sym, ap, length, take, get_or, set, arith, option_map, find, get_or-set_other}
use Rattle.std.specs.Option.{option_or}
use Rattle.std.proofs.lemmas.Bool.{ne_eqb}
use Rattle.std.proofs.lemmas.Bool.Decides.{eqb_tells, nat_tests}
use Rattle.std.proofs.lemmas.Grind.{get_or-set_at}
use Rattle.std.proofs.lemmas.List.{take_more, length-set, get_or_read}
use Rattle.std.proofs.lemmas.List.Folds.{find-append}
use Rattle.crush_grammar.specs.declared.declaration.DeclaredItem.{DeclaredItem}
use Rattle.crush_text.specs.Places.{names_place}

pub or_none : {X : Type 0} (o : Option X) → option_or o None ≡ o
or_none None = refl
or_none (Some x) = refl

is_none_of : {X : Type 0} (o : Option X) → is_some o ≡ false → o ≡ None
is_none_of None h = refl
is_none_of (Some x) h = cc

stays : {X : Type 0} (o p : Option X) → is_some o ≡ true → option_or o p ≡ o
stays None p h = cc
stays (Some x) p h = refl

-- a place past the table is none of its places
pub past : {X : Type 0} (n k : ℕ) (m : ℕ) (o : Option X) (x : X) → m ≤ n → k < m → option_or o (cond (n == k) (Some x) None) ≡ o
past n k m o x h lt =
    let apart : (n == k) ≡ false = ne_eqb n k (λ e. absurd (omega arith)) in
    rw apart (or_none o)

-- a place that has an item is unchanged
pub taken : {X : Type 0} (table : List (Option X)) (n k : ℕ) (x : X) → is_some (get_or table n None) ≡ true → option_or (get_or table k None) (cond (n == k) (Some x) None) ≡ get_or table k None
taken table n k x there = elim (eqb_tells n k) [
  | inl h ↦ stays (get_or table k None) _ (ap (λ j. is_some (get_or table j None)) (sym h.1) ∙ there)
  | inr h ↦ rw h.0 (or_none (get_or table k None))
]

-- a free place gets the item
pub put : {X : Type 0} (table : List (Option X)) (n k : ℕ) (x : X) → n < length table → is_some (get_or table n None) ≡ false → get_or (set table n (Some x)) k None ≡ option_or (get_or table k None) (cond (n == k) (Some x) None)
put table n k x short free = elim (eqb_tells n k) [
  | inl h ↦
      let here : get_or table k None ≡ None = ap (λ j. get_or table j None) (sym h.1) ∙ is_none_of (get_or table n None) free in
      rw (h.0, here) (get_or-set_at table n k (Some x) None (sym h.1) short)
  | inr h ↦ rw h.0 (get_or-set_other table n k (Some x) None (λ e. h.1 (sym e)) ∙ sym (or_none (get_or table k None)))
]

pub ruleset named_steps = (nat_tests, length-set, get_or_read, or_none, past, taken, put)

-- ---- one more item

pub mapped : {X V : Type 0} (f : X → V) (o : Option X) (b : Bool) (x : X) → option_map f (option_or o (cond b (Some x) None)) ≡ option_or (option_map f o) (cond b (Some (f x)) None)
mapped f None true x = refl
mapped f None false x = refl
mapped f (Some y) b x = refl

-- the first item that names place k, when one more is looked at
pub find_more : {X : Type 0} (f : DeclaredItem → X) (items : List DeclaredItem) (k i : ℕ) (item : DeclaredItem) → i < length items → item ≡ get_or items i item →
    option_map f (find (names_place k) (take (i + 1) items)) ≡ option_or (option_map f (find (names_place k) (take i items))) (cond (names_place k item) (Some (f item)) None)
find_more f items k i item short is =
    ap (λ xs. option_map f (find (names_place k) xs)) (take_more items i item short ∙ ap (λ x. take i items ++ x ∷ []) (sym is))
    ∙ (ap (option_map f) (find-append (names_place k) (take i items) (item ∷ []))
    ∙ mapped f (find (names_place k) (take i items)) (names_place k item) item)
