-- What a page has of the rows.
use Rattle.std.proofs.Common.{◌≡◌, ◌⊎◌, inl, inr, ℕ, ℤ, suc, zero, pos, ◌+◌, ◌≤◌, List, [], ◌∷◌, ◌++◌, map, filter, take, drop, length, get_or, Bool, true, false, codes, Ordering, Less, Equal, Greater, is_gt, is_lt, refl, sym, ap, subst, subst₂, ◌∙◌, arith, true≢false, append_assoc, length-append, ap₂, Some, None}
use Rattle.std.specs.List.{AllByRecursion}
use Rattle.std.specs.List.Sorted.{IsPermutation, IsSorted}
use Rattle.std.specs.Ordering.{ordering_then, ordering_reverse}
use Rattle.std.specs.Cmp.{IsTotalOrder}
use Rattle.std.proofs.lemmas.Cmp.{upto, alike_right}
use Rattle.std.proofs.lemmas.List.{take-append-drop, get_or_default}
use Rattle.std.proofs.lemmas.List.Sorted.{IsPermutation-map, IsPermutation-trans, IsPermutation-sym, All-permutation}
use Rattle.std.proofs.lemmas.List.Elements.{recursion_from_All, All-from_recursion}
use Rattle.sqlite_value.specs.declared.value.Value.{Value}
use Rattle.sqlite_value.specs.declared.value.Value.TheVariants.{Null, Int, Real, Text as Words, Blob}
use Rattle.sqlite_value.specs.declared.keys.Collation.TheVariants.{Binary}
use Rattle.sqlite_value.specs.Order.{Row, column, value_cmp}
use Rattle.sqlite_value.proofs.OrderLemmas.{value_cmp-apart, value_cmp_total}
use Rattle.sqlite_trees.specs.Tree.{Trees, IsAscending}
use Rattle.sqlite_trees.proofs.ListLemmas.{map-map}
use Rattle.sqlite_schema.specs.Rules.{equal}
use Rattle.sqlite_keyed.proofs.SortLemmas.{sorted_unique}
use Rattle.sqlite_sql.specs.Ops.{binary, is_true, from_truth}
use Rattle.sqlite_sql.specs.Term.{op2}
use Rattle.sqlite_sql.specs.declared.ops.BinaryOp.TheVariants.{Compare}
use Rattle.sqlite_sql.specs.declared.ops.CompareOp.TheVariants.{Gt}
use Rattle.sqlite_sql.specs.Query.{output_cmp}
use Rattle.sqlite_sql.proofs.QueryLemmas.{output_cmp_total}
use Rattle.sqlite_tied.specs.Compute.{everything}
use Rattle.sqlite.specs.Query.{Query, IsAnswer, Output, output, inner, end}
use Rattle.sqlite.specs.Program.{overlay}
use Rattle.sqlite.specs.Term.{Term, lit, col}
use Rattle.sqlite.specs.Listing.{understood}
use Rattle.sqlite.specs.State.{State, Shown}
use Rattle.table_schema.specs.declared.schema.Layout.{Layout}
use Rattle.table_schema.specs.declared.schema.Layout.TheVariants.{Compact, Gapped}
use Rattle.table_schema.specs.Layout.{store_schema, receipts_tree, receipts_table}
use Rattle.table_schema.specs.Holds.{rows_with, values_of, of_tenant}
use Rattle.table_schema.specs.Asked.{IsAnswered}
use Rattle.table_schema.specs.Ready.{IsReady}
use Rattle.table_schema.proofs.Answering.{Means, answer_of, is_answered, never_refused}
use Rattle.table_schema.proofs.Places.{places, read}
use Rattle.table_schema.proofs.Queries.{equals, staged_is, staged_are}
use Rattle.table_schema.proofs.Listing.{with_key, first_value, back, no_tie, filter_two}
use Rattle.sqlite_keyed.proofs.ListLemmas.{all_weaker, all_of, all_map, filter-map, filter_same, ascending-map, ascending_from_map, ascending_weaker}
use Rattle.table_schema.specs.Found.{IsBelow, IsRising, Lists, AreFirst, Begins, IsPageOf, rows_above}
use Rattle.table_schema.proofs.Rising.{from_neighbours}

all_front : {X : Type 0} (P : X → Type 0) (xs ys : List X) → AllByRecursion P (xs ++ ys) → AllByRecursion P xs
all_front P [] ys all = tt
all_front P (x ∷ xs) ys all = (all.0, all_front P xs ys all.1)

all_back : {X : Type 0} (P : X → Type 0) (xs ys : List X) → AllByRecursion P (xs ++ ys) → AllByRecursion P ys
all_back P [] ys all = all
all_back P (x ∷ xs) ys all = all_back P xs ys all.1

front_rises : {X : Type 0} (R : X → X → Type 0) (xs ys : List X) → IsAscending R (xs ++ ys) → IsAscending R xs
front_rises R [] ys up = tt
front_rises R (x ∷ xs) ys up = (all_front (R x) xs ys up.0, front_rises R xs ys up.1)

back_rises : {X : Type 0} (R : X → X → Type 0) (xs ys : List X) → IsAscending R (xs ++ ys) → IsAscending R ys
back_rises R [] ys up = up
back_rises R (x ∷ xs) ys up = back_rises R xs ys up.1

-- each is below the last
below_last : {X : Type 0} (R : X → X → Type 0) (xs : List X) (last : X) → IsAscending R (xs ++ last ∷ []) → AllByRecursion (λ x. R x last) xs
below_last R [] last up = tt
below_last R (x ∷ xs) last up = ((all_back (R x) xs (last ∷ []) up.0).0, below_last R xs last up.1)

abbrev AtMost : Row → Row → Type 0
AtMost a b = is_gt (value_cmp (column a 0) (column b 0)) ≡ false

below_then : (a b c : Row) → IsBelow a b → AtMost b c → IsBelow a c
below_then a b c less most = go (value_cmp (column b 0) (column c 0)) refl
  where
    go : (o : Ordering) → value_cmp (column b 0) (column c 0) ≡ o → IsBelow a c
    go Less e = value_cmp_total.trans _ _ _ less e
    go Equal e = sym (alike_right value_cmp_total (column b 0) (column c 0) (column a 0) e) ∙ less
    go Greater e = absurd (true≢false (sym (ap is_gt e) ∙ most))

pub begins : (all rows page : List Row) → AreFirst 17 all rows → IsPageOf rows page → Begins 16 all page
begins all rows page first it = go it.split
  where
    go : ((rows ≡ page) × (length page ≤ 16)) ⊎ ((last : Row) × (rows ≡ page ++ last ∷ []) × (16 ≤ length page)) → Begins 16 all page
    go (inl whole) =
        let none : first.rest ≡ [] = elim first.whole [ inl none ↦ none | inr full ↦ absurd (omega (arith, full, ap length whole.0, whole.1)) ] in
        record {
          rest = [];
          same = subst₂ (λ r s. IsPermutation all (r ++ s)) whole.0 none first.same;
          rising = subst IsRising whole.0 it.rising;
          above = all_of (λ row. AllByRecursion (IsBelow row) []) (λ row. tt) page;
          whole = inl refl;
        }
    go (inr (last, split, full)) =
        let up : IsRising (page ++ last ∷ []) = subst IsRising split it.rising in
        let joined : rows ++ first.rest ≡ page ++ last ∷ first.rest = ap (λ r. r ++ first.rest) split ∙ append_assoc page (last ∷ []) first.rest in
        let later : AllByRecursion (AtMost last) first.rest = (back_rises AtMost page (last ∷ first.rest) (subst (IsAscending AtMost) joined first.sorted)).0 in
        let below = below_last IsBelow page last up in
        record {
          rest = last ∷ first.rest;
          same = subst (IsPermutation all) joined first.same;
          rising = front_rises IsBelow page (last ∷ []) up;
          above = all_weaker (λ row. IsBelow row last) (λ row. AllByRecursion (IsBelow row) (last ∷ first.rest)) (λ row less. (less, all_weaker (AtMost last) (IsBelow row) (λ z most. below_then row last z less most) first.rest later)) page below;
          whole = inr (long full first.short (ap length split));
        }
      where
        long : 16 ≤ length page → length rows ≤ 17 → length rows ≡ length (page ++ last ∷ []) → length page ≡ 16
        long full short len = omega (arith, full, short, len, length-append page (last ∷ []))

pub begins_none : (IsOne : Row → Type 0) (most : ℕ) (all rows : List Row) → AreFirst most all rows → (AllByRecursion IsOne rows → IsRising rows → ⊥) → (list : List Row) → AllByRecursion IsOne list → Lists all list → ⊥
begins_none IsOne most all rows first none list each is =
    let same = first.in_order list is in
    none (all_front IsOne rows first.rest (subst (AllByRecursion IsOne) (sym same) each)) (front_rises IsBelow rows first.rest (subst IsRising (sym same) is.rising))

-- ---- the queries

abbrev pub page_query : ℕ → List Term → Query
page_query tree filter = record {
  from = inner tree end;
  filter = filter;
  group = None;
  project = col 1 2 ∷ col 1 3 ∷ col 1 4 ∷ col 1 5 ∷ col 1 6 ∷ [];
  distinct = false;
  collations = [];
  order = (col 1 2, record { collation = Binary; descending = false }) ∷ [];
  limit = lit (Int (pos 17));
  offset = lit (Int (pos 0));
}

untied : (o : Ordering) → is_gt (ordering_then o Equal) ≡ false → is_gt o ≡ false
untied Less h = h
untied Equal h = h
untied Greater h = h

turned : (o : Ordering) → is_lt o ≡ false → is_gt (ordering_reverse o) ≡ false
turned Less h = h
turned Equal h = refl
turned Greater h = refl

sorted_rises : {X : Type 0} (cmp : X → X → Ordering) → IsTotalOrder cmp → (xs : List X) → IsSorted cmp xs → IsAscending (λ a b. is_gt (cmp a b) ≡ false) xs
sorted_rises cmp total xs sorted =
    from_neighbours (λ a b. is_gt (cmp a b) ≡ false) (upto total) (length xs) xs (omega arith)
    (λ i d e low in_it.
    let next : suc i ≡ i + 1 = omega arith in
    let near = sorted i d (omega arith) (omega (arith, in_it)) in
    let same : get_or xs (suc i) e ≡ get_or xs (i + 1) d = get_or_default xs (suc i) e d in_it ∙ ap (λ k. get_or xs k d) next in
    subst (λ y. is_gt (cmp (get_or xs i d) y) ≡ false) (sym same) (ap is_gt (total.antisymm (get_or xs i d) (get_or xs (i + 1) d)) ∙ turned _ near))

keyed_list : (os : List Output) → AllByRecursion (λ o. o ≡ with_key first_value o.1) os → os ≡ map (with_key first_value) (map (λ (o : Output). o.1) os)
keyed_list [] all = refl
keyed_list (o ∷ os) all = ap₂ ◌∷◌ all.0 (keyed_list os all.1)

cut : (n : ℕ) (rows : List Row) → (length (take n rows) ≤ n) × ((drop n rows ≡ []) ⊎ (length (take n rows) ≡ n))
cut zero rows = (omega arith, inr refl)
cut (suc n) [] = (omega arith, inl refl)
cut (suc n) (r ∷ rows) =
    let it = cut n rows in
    (omega (arith, it.0), elim it.1 [ inl none ↦ inl none | inr full ↦ inr (ap suc full) ])

first_of : (tree : ℕ) (filter : List Term) (params : Row) (all rows : List Row) (db : Trees) (a : IsAnswer (page_query tree filter) (overlay db []) params rows) → a.kept ≡ map (with_key first_value) all → AreFirst 17 all rows
first_of tree filter params all rows db a kept =
    let q = page_query tree filter in
    let os = a.ordered in
    let list : List Row = map (λ (o : Output). o.1) os in
    let mixed : IsPermutation (map (with_key first_value) all) os = subst (λ k. IsPermutation k os) kept a.same in
    let shown : rows ≡ take 17 list = a.shown in
    let split : rows ++ drop 17 list ≡ list = ap (λ r. r ++ drop 17 list) shown ∙ take-append-drop 17 list in
    let keyed : os ≡ map (with_key first_value) list = keyed_list os (recursion_from_All (λ o. o ≡ with_key first_value o.1) os (All-permutation (λ o. o ≡ with_key first_value o.1) (map (with_key first_value) all) os mixed (All-from_recursion (λ o. o ≡ with_key first_value o.1) (map (with_key first_value) all) (all_map (λ o. o ≡ with_key first_value o.1) (with_key first_value) all (all_of (λ r. with_key first_value r ≡ with_key first_value r) (λ r. refl) all))))) in
    let up : IsAscending (λ a b. is_gt (output_cmp q a b) ≡ false) (map (with_key first_value) list) = subst (IsAscending (λ a b. is_gt (output_cmp q a b) ≡ false)) keyed (sorted_rises (output_cmp q) (output_cmp_total q) os a.sorted) in
    let rises : IsAscending AtMost list = ascending_weaker _ AtMost (λ a b. untied (value_cmp (column a 0) (column b 0))) list (ascending_from_map (λ a b. is_gt (output_cmp q a b) ≡ false) (with_key first_value) list up) in
    let cuts = cut 17 list in
    record {
      rest = drop 17 list;
      short = subst (λ r. length r ≤ 17) (sym shown) cuts.0;
      same = subst (IsPermutation all) (sym split) (subst (λ l. IsPermutation l list) (back first_value all) (IsPermutation-map (λ (o : Output). o.1) _ os mixed));
      sorted = subst (IsAscending AtMost) (sym split) rises;
      in_order = λ ys is.
          let theirs = IsPermutation-trans _ _ _ (IsPermutation-sym _ _ (IsPermutation-map (with_key first_value) _ _ is.same)) mixed in
          let ordered = sorted_unique (output_cmp q) (output_cmp_total q) (map (with_key first_value) ys) os (rising_keys filter ys is.rising) theirs a.sorted in
          split ∙ ap (map (λ (o : Output). o.1)) ordered ∙ back first_value ys;
      whole = elim cuts.1 [ inl none ↦ inl none | inr full ↦ inr (ap length shown ∙ full) ];
    }
  where
    rising_keys : (filter : List Term) (ys : List Row) → IsRising ys → IsAscending (λ a b. output_cmp (page_query tree filter) a b ≡ Less) (map (with_key first_value) ys)
    rising_keys filter ys up = ascending-map _ (with_key first_value) ys (ascending_weaker (λ a b. value_cmp (column a 0) (column b 0) ≡ Less) _ (λ a b. no_tie a b) ys up)

abbrev pub first_text : List ℕ
first_text = codes "SELECT request, path, body, status, reply FROM receipts WHERE tenant = ?1 ORDER BY request LIMIT 17"

abbrev receipt_names : List (List ℕ)
receipt_names = codes "request" ∷ codes "path" ∷ codes "body" ∷ codes "status" ∷ codes "reply" ∷ []

first_means : (id : ℤ) (layout : Layout) → Means layout first_text (Int id ∷ []) (page_query (receipts_tree layout) (equals 1 0 ∷ [])) receipt_names
unfolding understood everything
first_means id Compact = record { command = refl; listing = refl; plain = (refl, refl); answered = (omega arith, refl, refl, refl, never_refused _ (page_query (receipts_tree Compact) (equals 1 0 ∷ [])) (store_schema Compact) (Int id ∷ []) refl refl refl) }
first_means id Gapped = record { command = refl; listing = refl; plain = (refl, refl); answered = (omega arith, refl, refl, refl, never_refused _ (page_query (receipts_tree Gapped) (equals 1 0 ∷ [])) (store_schema Gapped) (Int id ∷ []) refl refl refl) }

pub first_answered : (id : ℤ) → IsAnswered first_text (Int id ∷ [])
first_answered id = is_answered first_text _ (λ layout. page_query (receipts_tree layout) (equals 1 0 ∷ [])) _ (first_means id)

pub reads_first : (id : ℤ) (old new : State) (rows : List Row) → IsReady old → Shown first_text (Int id ∷ []) old new rows → AreFirst 17 (of_tenant receipts_table id old.now.trees) rows
reads_first id old new rows ready h =
    let params : Row = Int id ∷ [] in
    let layout = ready.schema.0 in
    let tree = receipts_tree layout in
    let q = page_query tree (equals 1 0 ∷ []) in
    let a : IsAnswer q (overlay old.now.trees []) params rows = answer_of first_text params (λ layout. page_query (receipts_tree layout) (equals 1 0 ∷ [])) _ (first_means id) old new rows ready h in
    let all = overlay old.now.trees [] tree in
    let staged = a.grouped ∙ staged_is params _ all in
    let own : List Row → List Row = λ here. map (values_of receipts_table) (rows_with 1 (Int id) here) in
    subst (λ here. AreFirst 17 (own here) rows) ((read layout old.now.trees).receipts ∙ ap old.now.trees (sym (places layout old.now ready.sound ready.schema.1).receipts))
    (first_of tree (equals 1 0 ∷ []) params (own all) rows old.now.trees a
    (a.distinct ∙ ap (map (output q)) staged ∙ map-map (output q) (λ (r : Row). params ∷ r ∷ []) _ ∙ sym (map-map (with_key first_value) (values_of receipts_table) _)))

abbrev pub next_text : List ℕ
next_text = codes "SELECT request, path, body, status, reply FROM receipts WHERE tenant = ?1 AND request > ?2 ORDER BY request LIMIT 17"

abbrev pub above_term : Term
above_term = op2 (Compare Gt Binary) (col 1 2) (col 0 1)

next_means : (id : ℤ) (after : List ℕ) (layout : Layout) → Means layout next_text (Int id ∷ Words after ∷ []) (page_query (receipts_tree layout) (equals 1 0 ∷ above_term ∷ [])) receipt_names
unfolding understood everything
next_means id after Compact = record { command = refl; listing = refl; plain = (refl, refl); answered = (omega arith, refl, refl, refl, never_refused _ (page_query (receipts_tree Compact) (equals 1 0 ∷ above_term ∷ [])) (store_schema Compact) (Int id ∷ Words after ∷ []) refl refl refl) }
next_means id after Gapped = record { command = refl; listing = refl; plain = (refl, refl); answered = (omega arith, refl, refl, refl, never_refused _ (page_query (receipts_tree Gapped) (equals 1 0 ∷ above_term ∷ [])) (store_schema Gapped) (Int id ∷ Words after ∷ []) refl refl refl) }

pub next_answered : (id : ℤ) (after : List ℕ) → IsAnswered next_text (Int id ∷ Words after ∷ [])
next_answered id after = is_answered next_text _ (λ layout. page_query (receipts_tree layout) (equals 1 0 ∷ above_term ∷ [])) _ (next_means id after)

-- as SQL tests it
abbrev is_above : List ℕ → Value → Bool
is_above after v = is_true (binary (Compare Gt Binary) v (Words after))

told_gt : (b : Bool) → is_true (from_truth (Some b)) ≡ b
told_gt true = refl
told_gt false = refl

above_is : (after : List ℕ) (v : Value) → is_above after v ≡ is_gt (value_cmp v (Words after))
unfolding binary
above_is after Null = sym (ap is_gt (value_cmp-apart Null (Words after) (λ e. absurd (omega (arith, e)))))
above_is after (Int n) = told_gt _
above_is after (Real x) = told_gt _
above_is after (Words t) = told_gt _
above_is after (Blob b) = told_gt _

pub reads_next : (id : ℤ) (after : List ℕ) (old new : State) (rows : List Row) → IsReady old → Shown next_text (Int id ∷ Words after ∷ []) old new rows
    → AreFirst 17 (rows_above after (of_tenant receipts_table id old.now.trees)) rows
reads_next id after old new rows ready h =
    let params : Row = Int id ∷ Words after ∷ [] in
    let layout = ready.schema.0 in
    let tree = receipts_tree layout in
    let filters = equals 1 0 ∷ above_term ∷ [] in
    let q = page_query tree filters in
    let a : IsAnswer q (overlay old.now.trees []) params rows = answer_of next_text params (λ layout. page_query (receipts_tree layout) filters) _ (next_means id after) old new rows ready h in
    let all = overlay old.now.trees [] tree in
    let mine : Row → Bool = λ r. equal Binary (column r 1) (Int id) in
    let asked : Row → Bool = λ r. is_above after (column r 2) in
    let staged = a.grouped ∙ staged_are params mine asked all ∙ ap (map (λ r. params ∷ r ∷ [])) (filter_two mine asked all ∙ filter_same asked (λ r. is_gt (value_cmp (column r 2) (Words after))) (λ r. above_is after (column r 2)) (rows_with 1 (Int id) all)) in
    let above : List Row → List Row = λ here. rows_above after (map (values_of receipts_table) (rows_with 1 (Int id) here)) in
    subst (λ here. AreFirst 17 (above here) rows) ((read layout old.now.trees).receipts ∙ ap old.now.trees (sym (places layout old.now ready.sound ready.schema.1).receipts))
    (first_of tree filters params (above all) rows old.now.trees a
    (a.distinct ∙ ap (map (output q)) staged ∙ map-map (output q) (λ (r : Row). params ∷ r ∷ []) _ ∙ sym (map-map (with_key first_value) (values_of receipts_table) _)
    ∙ ap (map (with_key first_value)) (sym (filter-map (λ row. is_gt (value_cmp (column row 0) (Words after))) (values_of receipts_table) (rows_with 1 (Int id) all)))))
