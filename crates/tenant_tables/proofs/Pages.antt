-- What a page of receipts says of the rows that it begins.
use Rattle.std.proofs.Common.{◌≡◌, inl, inr, ◌↔◌, ℕ, pos, ◌+◌, ◌<◌, ◌≤◌, List, [], ◌∷◌, ◌++◌, map, filter, length, get_or, string_bytes, Result, Err, Bool, true, false, nat_le, ◌&&◌, Option, Some, None, Ordering, Less, Equal, Greater, is_gt, IsPermutation, arith, refl, sym, ap, subst, ◌∙◌, length-append}
use Rattle.std.specs.List.{AllByRecursion, list_all}
use Rattle.std.specs.Ordering.{ordering_reverse}
use Rattle.std.proofs.lemmas.List.{map-append, map_push, length-map, append-nil}
use Rattle.std.proofs.lemmas.List.Folds.{list_all-append}
use Rattle.std.proofs.lemmas.List.Elements.{recursion_from_All, All-from_recursion, All-get_or, filter-append, filter_passes}
use Rattle.std.proofs.lemmas.List.Sorted.{All-permutation, IsPermutation-sym, IsPermutation-trans, IsPermutation-append_right, length_permutation}
use Rattle.std.proofs.lemmas.Bool.Decides.{nat_tests}
use Rattle.std.specs.declared.string.String.{String}
use Rattle.std.proofs.lemmas.Str.{IsUtf8-from_is_utf8, IsUtf8-string_bytes, is_utf8-from_IsUtf8}
use Rattle.table_schema.specs.sqlite_value.specs.declared.value.Value.TheVariants.{Int, Text as Words}
use Rattle.table_schema.specs.sqlite_value.specs.Order.{Row, column, value_cmp}
use Rattle.table_schema.specs.sqlite_value.proofs.OrderLemmas.{value_cmp_total}
use Rattle.sqlite_trees.specs.Tree.{Trees}
use Rattle.table_schema.specs.sqlite_keyed.proofs.ListLemmas.{all_weaker, all_unmap, all-filter, all_from_test, test_from_all, filter_all, filter_none, filter-filter, filter-map, IsPermutation-filter, ascending-filter, ascending-append}
use Rattle.tenant_messages.specs.Reply.{success_status}
use Rattle.tenant_messages.specs.Numbers.{has_length}
use Rattle.tenant_messages.specs.declared.limits.TheConstants.{REQUEST_NUMBER_LIMIT}
use Rattle.tenant_messages.specs.declared.reply.SuccessStatus.{SuccessStatus}
use Rattle.std.specs.Str.{is_utf8}
use Rattle.tenant_state.specs.Ordered.{is_ascending}
use Rattle.tenant_state.specs.Receipts.{Receipts, is_before}
use Rattle.tenant_state.specs.Valid.{is_receipt}
use Rattle.tenant_state.specs.declared.receipts.Receipt.{Receipt}
use Rattle.table_schema.specs.Layout.{receipts_table}
use Rattle.table_schema.specs.Holds.{of_tenant}
use Rattle.table_schema.specs.Found.{IsRising, IsReceiptRow, Lists, Begins, rows_above, receipt_values}
use Rattle.table_schema.specs.declared.rows.ReceiptRow.{ReceiptRow}
use Rattle.tenant_messages.specs.declared.StoreFault.{StoreFault}
use Rattle.table_schema.proofs.Rising.{below_text, below_text_back}
use Rattle.table_schema.specs.declared.find.Tenant.{Tenant}
use Rattle.tenant_tables.specs.Changes.{HasReceipts}
use Rattle.tenant_tables.specs.Rows.{row_of_receipt}
use Rattle.tenant_tables.specs.Pages.{IsOfReceipt, AreReceipts, IsTail, Leaves}
use Rattle.tenant_tables.specs.declared.judge.Rest.{Rest}
use Rattle.tenant_tables.proofs.Reading.{first, second}

abbrev Below : Row → Row → Type 0
Below a b = value_cmp (column a 0) (column b 0) ≡ Less

abbrev is_above : List ℕ → Row → Bool
is_above after row = is_gt (value_cmp (column row 0) (Words after))

both : (a b : Bool) → a ≡ true → b ≡ true → (a && b) ≡ true
both true b h k = k
both false b h k = h

-- ---- receipts and their rows in order

-- receipts in order have rows that rise, and the other way round
rising : (rs : Receipts) → is_ascending is_before rs ≡ true → IsRising (map row_of_receipt rs)
rising [] h = tt
rising (r ∷ []) h = (tt, tt)
rising (r ∷ s ∷ rs) h =
    let near = below_text r.0 s.0 (first (is_before r s) (is_ascending is_before (s ∷ rs)) h) in
    let rest = rising (s ∷ rs) (second (is_before r s) (is_ascending is_before (s ∷ rs)) h) in
    ((near, all_weaker (Below (row_of_receipt s)) (Below (row_of_receipt r)) (λ z. value_cmp_total.trans (Words r.0) (Words s.0) (column z 0) near) (map row_of_receipt rs) rest.0), rest)

in_order : (rs : Receipts) → IsRising (map row_of_receipt rs) → is_ascending is_before rs ≡ true
in_order [] up = refl
in_order (r ∷ []) up = refl
in_order (r ∷ s ∷ rs) up = both (is_before r s) (is_ascending is_before (s ∷ rs)) (below_text_back r.0 s.0 up.0.0) (in_order (s ∷ rs) up.1)

each_one : (rs : Receipts) → list_all is_receipt rs ≡ true → AllByRecursion IsOfReceipt (map row_of_receipt rs)
each_one [] h = tt
each_one (r ∷ rs) h = ((r, first (is_receipt r) (list_all is_receipt rs) h, refl), each_one rs (second (is_receipt r) (list_all is_receipt rs) h))

-- the receipts of rows that are each of one
record AreOf (rows : List Row) : Type 0 where
  pub receipts : Receipts
  pub ranges : list_all is_receipt receipts ≡ true
  pub is : rows ≡ map row_of_receipt receipts

receipts_of : (rows : List Row) → AllByRecursion IsOfReceipt rows → AreOf rows
receipts_of [] each = record { receipts = []; ranges = refl; is = refl }
receipts_of (row ∷ rows) each =
    let rest = receipts_of rows each.1 in
    record {
      receipts = each.0.0 ∷ rest.receipts;
      ranges = both (is_receipt each.0.0) (list_all is_receipt rest.receipts) each.0.1 rest.ranges;
      is = λ i. each.0.2 i ∷ rest.is i;
    }

all_moved : (P : Row → Type 0) (xs ys : List Row) → IsPermutation xs ys → AllByRecursion P xs → AllByRecursion P ys
all_moved P xs ys same all = recursion_from_All P ys (All-permutation P xs ys same (All-from_recursion P xs all))

all_front : (P : Row → Type 0) (xs ys : List Row) → AllByRecursion P (xs ++ ys) → AllByRecursion P xs
all_front P [] ys all = tt
all_front P (x ∷ xs) ys all = (all.0, all_front P xs ys all.1)

-- what holds of each element holds of the last one
all_last : (P : Row → Type 0) (xs : List Row) (last : Row) → AllByRecursion P (xs ++ last ∷ []) → P last
all_last P [] last all = all.0
all_last P (x ∷ xs) last all = all_last P xs last all.1

-- ---- what lies above a text

untied : (o : Ordering) → o ≡ Less → is_gt o ≡ false
untied Less h = refl
untied Equal h = refl
untied Greater h = cc

tied : (o : Ordering) → o ≡ ordering_reverse o → is_gt o ≡ false
tied Less h = refl
tied Equal h = refl
tied Greater h = cc

greater : (o : Ordering) → o ≡ Less → is_gt (ordering_reverse o) ≡ true
greater Less h = refl
greater Equal h = cc
greater Greater h = cc

is_greater : (o : Ordering) → is_gt o ≡ true → o ≡ Greater
is_greater Less h = cc
is_greater Equal h = cc
is_greater Greater h = refl

-- the last row of the page has the text, so no row of the page is above it
module _ (after : List ℕ) (last : Row) (is : column last 0 ≡ Words after) where
  below_not_above : (row : Row) → Below row last → is_above after row ≡ false
  below_not_above row less = untied _ (subst (λ v. value_cmp (column row 0) v ≡ Less) is less)

  last_not_above : is_above after last ≡ false
  last_not_above = subst (λ v. is_gt (value_cmp v (Words after)) ≡ false) (sym is) (tied _ (value_cmp_total.antisymm (Words after) (Words after)))

  none_above : (front : List Row) → IsRising (front ++ last ∷ []) → AllByRecursion (λ row. is_above after row ≡ false) (front ++ last ∷ [])
  none_above [] up = (last_not_above, tt)
  none_above (row ∷ front) up = (below_not_above row (all_last (Below row) front last up.0), none_above front up.1)

  later_above : (row : Row) → Below last row → is_above after row ≡ true
  later_above row less = ap is_gt (value_cmp_total.antisymm (column row 0) (Words after)) ∙ greater _ (subst (λ v. value_cmp v (column row 0) ≡ Less) is less)

-- what is above the higher of two texts is above the lower one
above_both : (low high : List ℕ) → is_gt (value_cmp (Words high) (Words low)) ≡ true → (row : Row) → is_above high row ≡ true → is_above low row ≡ true
above_both low high up row h =
    let far : value_cmp (Words high) (column row 0) ≡ Less = value_cmp_total.antisymm (Words high) (column row 0) ∙ ap ordering_reverse (is_greater _ h) in
    let near : value_cmp (Words low) (Words high) ≡ Less = value_cmp_total.antisymm (Words low) (Words high) ∙ ap ordering_reverse (is_greater _ up) in
    let joined : value_cmp (Words low) (column row 0) ≡ Less = value_cmp_total.trans (Words low) (Words high) (column row 0) near far in
    ap is_gt (value_cmp_total.antisymm (column row 0) (Words low)) ∙ greater _ joined

-- ---- the rows that follow a page

-- a page of these rows whose last row has the text, with what is above it
module _ (all rows front : List Row) (last : Row) (after : List ℕ) (tail : IsTail all rows) (page : Begins 16 rows (front ++ last ∷ [])) (is : column last 0 ≡ Words after) where
  above_last : AllByRecursion (λ later. Below last later) page.rest
  above_last = all_last (λ row. AllByRecursion (Below row) page.rest) front last page.above

  above_parts : rows_above after ((front ++ last ∷ []) ++ page.rest) ≡ page.rest
  above_parts =
      filter-append (is_above after) (front ++ last ∷ []) page.rest
      ∙ (ap (λ l. l ++ filter (is_above after) page.rest) (filter_none (is_above after) (front ++ last ∷ []) (none_above after last is front page.rising))
      ∙ filter_all (is_above after) page.rest (all_weaker (Below last) (λ row. is_above after row ≡ true) (later_above after last is) page.rest above_last))

  above_rows : IsPermutation (rows_above after rows) page.rest
  above_rows = subst (IsPermutation (rows_above after rows)) above_parts (IsPermutation-filter (is_above after) rows ((front ++ last ∷ []) ++ page.rest) page.same)

  above_all : rows_above after all ≡ rows_above after rows
  above_all = elim tail [ inl same ↦ ap (rows_above after) (sym same) | inr (before, same) ↦ behind before same ]
    where
      behind : (before : List ℕ) → rows ≡ rows_above before all → rows_above after all ≡ rows_above after rows
      behind before same =
          let passed : AllByRecursion (λ row. is_above before row ≡ true) rows = subst (AllByRecursion (λ row. is_above before row ≡ true)) (sym same) (recursion_from_All _ _ (filter_passes (is_above before) all)) in
          let moved = all_moved (λ row. is_above before row ≡ true) rows ((front ++ last ∷ []) ++ page.rest) page.same passed in
          let highest : is_above before last ≡ true = all_last (λ row. is_above before row ≡ true) front last (all_front (λ row. is_above before row ≡ true) (front ++ last ∷ []) page.rest moved) in
          let high = subst (λ v. is_gt (value_cmp v (Words before)) ≡ true) is highest in
          sym (ap (rows_above after) same ∙ filter-filter (is_above after) (is_above before) (above_both before after high) all)

  above : IsPermutation (rows_above after all) page.rest
  above = subst (λ l. IsPermutation l page.rest) (sym above_all) above_rows

-- the page and the rest together are as many as the receipts
long : (rows page rest : List Row) (count : ℕ) → IsPermutation rows (page ++ rest) → AreReceipts count rows → length page + length rest ≡ count
long rows page rest count same h =
    sym (length-append page rest) ∙ (length_permutation rows (page ++ rest) same ∙ (sym (length_permutation rows (map row_of_receipt h.receipts) h.same) ∙ (length-map h.receipts row_of_receipt ∙ h.number)))

-- the receipts above the last of a page are as many as remain
forth : (all rows front : List Row) (last : Row) (after : List ℕ) (count left : ℕ) → IsTail all rows → Begins 16 rows (front ++ last ∷ []) → column last 0 ≡ Words after → length (front ++ last ∷ []) + left ≡ count → AreReceipts count rows → AreReceipts left (rows_above after all)
forth all rows front last after count left tail page is split h =
    let kept : Receipts = filter (λ r. is_above after (row_of_receipt r)) h.receipts in
    let mapped : rows_above after (map row_of_receipt h.receipts) ≡ map row_of_receipt kept = filter-map (is_above after) row_of_receipt h.receipts in
    let moved : IsPermutation (rows_above after rows) (map row_of_receipt kept) = subst (IsPermutation (rows_above after rows)) mapped (IsPermutation-filter (is_above after) rows (map row_of_receipt h.receipts) h.same) in
    let same : IsPermutation (rows_above after all) (map row_of_receipt kept) = subst (λ l. IsPermutation l (map row_of_receipt kept)) (sym (above_all all rows front last after tail page is)) moved in
    let whole : length (front ++ last ∷ []) + length page.rest ≡ count = long rows (front ++ last ∷ []) page.rest count page.same h in
    let many : length kept ≡ length page.rest = sym (length-map kept row_of_receipt) ∙ (length_permutation _ _ same ∙ sym (length_permutation _ _ (above all rows front last after tail page is))) in
    record {
      receipts = kept;
      number = omega (arith, split, whole, many);
      ranges = ranges_kept h.receipts h.ranges;
      order = in_order kept (subst IsRising mapped (ascending-filter Below (is_above after) (map row_of_receipt h.receipts) (rising h.receipts h.order)));
      same = same;
    }
  where
    ranges_kept : (rs : Receipts) → list_all is_receipt rs ≡ true → list_all is_receipt (filter (λ r. is_above after (row_of_receipt r)) rs) ≡ true
    ranges_kept rs h = test_from_all is_receipt _ (all-filter (λ r. is_receipt r ≡ true) (λ r. is_above after (row_of_receipt r)) rs (all_from_test is_receipt rs h))

-- a page of receipts and those above it are all receipts
back : (all rows front : List Row) (last : Row) (after : List ℕ) (count left : ℕ) → IsTail all rows → Begins 16 rows (front ++ last ∷ []) → column last 0 ≡ Words after → length (front ++ last ∷ []) + left ≡ count → AllByRecursion IsOfReceipt (front ++ last ∷ []) → AreReceipts left (rows_above after all) → AreReceipts count rows
back all rows front last after count left tail page is split each h =
    let these = receipts_of (front ++ last ∷ []) each in
    let here : List Row = map row_of_receipt these.receipts in
    let there : List Row = map row_of_receipt h.receipts in
    let moved : IsPermutation page.rest there = IsPermutation-trans page.rest (rows_above after all) there (IsPermutation-sym _ _ (above all rows front last after tail page is)) h.same in
    let joined : IsPermutation rows (here ++ there) = subst (λ l. IsPermutation rows (l ++ there)) these.is (IsPermutation-trans rows ((front ++ last ∷ []) ++ page.rest) ((front ++ last ∷ []) ++ there) page.same (IsPermutation-append_right (front ++ last ∷ []) page.rest there moved)) in
    let across : AllByRecursion (λ row. AllByRecursion (Below row) there) here = subst (AllByRecursion (λ row. AllByRecursion (Below row) there)) these.is (all_weaker (λ row. AllByRecursion (Below row) page.rest) (λ row. AllByRecursion (Below row) there) (λ row. all_moved (Below row) page.rest there moved) (front ++ last ∷ []) page.above) in
    let up : IsRising (here ++ there) = ascending-append Below here there (subst IsRising these.is page.rising) (rising h.receipts h.order) across in
    let mapped : map row_of_receipt (these.receipts ++ h.receipts) ≡ here ++ there = map-append row_of_receipt these.receipts h.receipts in
    let many : length (front ++ last ∷ []) ≡ length these.receipts = ap length these.is ∙ length-map these.receipts row_of_receipt in
    record {
      receipts = these.receipts ++ h.receipts;
      number = length-append these.receipts h.receipts ∙ omega (arith, many, h.number, split);
      ranges = list_all-append is_receipt these.receipts h.receipts ∙ both _ _ these.ranges h.ranges;
      order = in_order (these.receipts ++ h.receipts) (subst IsRising (sym mapped) up);
      same = subst (IsPermutation rows) (sym mapped) joined;
    }

-- the last page has all the rows
no_rest : (rows page : List Row) (b : Begins 16 rows page) → length page < 16 → b.rest ≡ []
no_rest rows page b short = elim b.whole [ inl none ↦ none | inr full ↦ absurd (omega (arith, full, short)) ]

pub whole : (rows page : List Row) (count : ℕ) → Begins 16 rows page → length page < 16 → length page ≡ count → AllByRecursion IsOfReceipt page → AreReceipts count rows
whole rows page count b short number each =
    let these = receipts_of page each in
    let same : IsPermutation rows page = subst (IsPermutation rows) (append-nil page) (subst (λ l. IsPermutation rows (page ++ l)) (no_rest rows page b short) b.same) in
    record {
      receipts = these.receipts;
      number = sym (length-map these.receipts row_of_receipt) ∙ (sym (ap length these.is) ∙ number);
      ranges = these.ranges;
      order = in_order these.receipts (subst IsRising these.is b.rising);
      same = subst (IsPermutation rows) these.is same;
    }

-- ---- what a page of receipts has to be

-- each row is that of a receipt, and they are as many as there may be
pub each_of_page : (rows page : List Row) (count : ℕ) → Begins 16 rows page → AreReceipts count rows → AllByRecursion IsOfReceipt page
each_of_page rows page count b h =
    all_front IsOfReceipt page b.rest (all_moved IsOfReceipt (map row_of_receipt h.receipts) (page ++ b.rest) (IsPermutation-trans _ _ _ (IsPermutation-sym rows _ h.same) b.same) (each_one h.receipts h.ranges))

pub not_more : (rows page : List Row) (count : ℕ) → Begins 16 rows page → AreReceipts count rows → length page ≤ count
not_more rows page count b h = omega (arith, long rows page b.rest count b.same h)

pub not_fewer : (rows page : List Row) (count : ℕ) → Begins 16 rows page → length page < 16 → AreReceipts count rows → length page ≡ count
not_fewer rows page count b short h = omega (arith, long rows page b.rest count b.same h, ap length (no_rest rows page b short))

-- ---- lists of receipts

-- the row of a receipt can be read
is_row : (r : List ℕ × Receipt) → is_receipt r ≡ true → IsReceiptRow (row_of_receipt r)
is_row r h =
    let to_body = first (has_length r.0 && is_utf8 r.0 && is_utf8 r.1.path && is_utf8 r.1.body) (is_utf8 r.1.reply) h in
    let to_path = first (has_length r.0 && is_utf8 r.0 && is_utf8 r.1.path) (is_utf8 r.1.body) to_body in
    let to_number = first (has_length r.0 && is_utf8 r.0) (is_utf8 r.1.path) to_path in
    let number = IsUtf8-from_is_utf8 r.0 (second (has_length r.0) (is_utf8 r.0) to_number) in
    let path = IsUtf8-from_is_utf8 r.1.path (second (has_length r.0 && is_utf8 r.0) (is_utf8 r.1.path) to_path) in
    let body = IsUtf8-from_is_utf8 r.1.body (second (has_length r.0 && is_utf8 r.0 && is_utf8 r.1.path) (is_utf8 r.1.body) to_body) in
    let reply = IsUtf8-from_is_utf8 r.1.reply (second (has_length r.0 && is_utf8 r.0 && is_utf8 r.1.path && is_utf8 r.1.body) (is_utf8 r.1.reply) h) in
    (r.0, number, r.1.path, path, r.1.body, body, pos (success_status r.1.status), r.1.reply, reply, refl)

-- rows that no list of receipts' rows lists are those of no receipts
pub unlisted : (rows : List Row) (count : ℕ) → ((list : List Row) → AllByRecursion IsReceiptRow list → ¬ Lists rows list) → ¬ AreReceipts count rows
unlisted rows count none h =
    none (map row_of_receipt h.receipts) (each_row h.receipts h.ranges) (record { same = h.same; rising = rising h.receipts h.order })
  where
    each_row : (rs : Receipts) → list_all is_receipt rs ≡ true → AllByRecursion IsReceiptRow (map row_of_receipt rs)
    each_row [] h = tt
    each_row (r ∷ rs) h = (is_row r (first (is_receipt r) (list_all is_receipt rs) h), each_row rs (second (is_receipt r) (list_all is_receipt rs) h))

-- ---- rows that were read

abbrev read_row : ReceiptRow → SuccessStatus → List ℕ × Receipt
read_row row s = (string_bytes row.request, record { path = string_bytes row.path; body = string_bytes row.body; status = s; reply = string_bytes row.reply })

-- its request number has its length, and its status is one
pub is_of_receipt : (row : ReceiptRow) (s : SuccessStatus) → 0 < length (string_bytes row.request) → length (string_bytes row.request) ≤ REQUEST_NUMBER_LIMIT → row.status ≡ pos (success_status s) → IsOfReceipt (receipt_values row)
is_of_receipt row s some few status = (read_row row s, ranges, λ i. Words (string_bytes row.request) ∷ Words (string_bytes row.path) ∷ Words (string_bytes row.body) ∷ Int (status i) ∷ Words (string_bytes row.reply) ∷ [])
  where
    text : {Z : Type 0} (s : String Z) → is_utf8 (string_bytes s) ≡ true
    text s = is_utf8-from_IsUtf8 (string_bytes s) (IsUtf8-string_bytes s)

    ranges : is_receipt (read_row row s) ≡ true
    ranges =
        let one : nat_le 1 (length (string_bytes row.request)) ≡ true = grind (arith, nat_tests) in
        let most : nat_le (length (string_bytes row.request)) REQUEST_NUMBER_LIMIT ≡ true = grind (arith, nat_tests) in
        both _ _ (both _ _ (both _ _ (both _ _ (both _ _ one most) (text row.request)) (text row.path)) (text row.body)) (text row.reply)

pub status_of : (row : ReceiptRow) → IsOfReceipt (receipt_values row) → (s : SuccessStatus) × (row.status ≡ pos (success_status s))
status_of row (r, is, same) = (r.1.status, cc)

-- each row of a list of them is that of a receipt
pub one_of_receipt : (rows : List ReceiptRow) (i : ℕ) (row : ReceiptRow) → i < length rows → row ≡ get_or rows i row → AllByRecursion IsOfReceipt (map receipt_values rows) → IsOfReceipt (receipt_values row)
one_of_receipt rows i row low at all =
    subst (λ r. IsOfReceipt (receipt_values r)) (sym at) (All-get_or (λ r. IsOfReceipt (receipt_values r)) rows i row low (All-from_recursion (λ r. IsOfReceipt (receipt_values r)) rows (all_unmap IsOfReceipt receipt_values rows all)))

-- a full page leaves what is above its last request
pub leaves_more : (all rows : List Row) (items front : List ReceiptRow) (row : ReceiptRow) (count left : ℕ) → items ≡ front ++ row ∷ [] → length items + left ≡ count → AllByRecursion IsOfReceipt (map receipt_values items) → IsTail all rows → Begins 16 rows (map receipt_values items)
    → AreReceipts count rows ↔ AreReceipts left (rows_above (string_bytes row.request) all)
leaves_more all rows items front row count left split number each tail page =
    let parts : map receipt_values items ≡ map receipt_values front ++ receipt_values row ∷ [] = ap (map receipt_values) split ∙ map_push receipt_values front row in
    let begins = subst (Begins 16 rows) parts page in
    let many : length (map receipt_values front ++ receipt_values row ∷ []) + left ≡ count = omega (arith, number, ap length parts, length-map items receipt_values) in (
      forth all rows (map receipt_values front) (receipt_values row) (string_bytes row.request) count left tail begins refl many,
      back all rows (map receipt_values front) (receipt_values row) (string_bytes row.request) count left tail begins refl many (subst (AllByRecursion IsOfReceipt) parts each),
    )

-- what decides over the rest decides over all
pub chained : (all rows later : List Row) (count left : ℕ) (rest : Option Rest) → AreReceipts count rows ↔ AreReceipts left later → Leaves all later left rest → Leaves all rows count rest
chained all rows later count left None same leaves = same.1 leaves
chained all rows later count left (Some rest) same leaves = (λ h. leaves.0 (same.0 h), λ h. same.1 (leaves.1 h))

-- ---- the receipts of a tenant

-- they are as many as the epoch says
pub receipts_are : (db : Trees) (tenant : Tenant) (count : ℕ) (receipts : Receipts) → tenant.epoch ≡ pos count → HasReceipts db tenant receipts → AreReceipts count (of_tenant receipts_table tenant.id db)
receipts_are db tenant count receipts number h =
    record { receipts = receipts; number = same (length receipts) count (sym h.epoch_is ∙ number); ranges = h.ranges; order = h.order; same = h.rows }
  where
    same : (m n : ℕ) → pos m ≡ pos n → m ≡ n
    same m n e = cc

-- the fault that was handed on
pub same_fault : {A : Type 0} (r : Result A StoreFault) (e f d : StoreFault) → r ≡ Err e → e ≡ f → r ≡ Err d → f ≡ d
same_fault r e f d is same other = cc

-- how many pages may come yet
abbrev pub pages_left : Option Rest → ℕ
pages_left None = 0
pages_left (Some rest) = rest.left + 1
