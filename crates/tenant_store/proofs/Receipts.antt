-- The receipt of a request number among a tenant's rows.
use Rattle.std.proofs.Common.{◌≡◌, ◌≢◌, ℕ, List, [], ◌∷◌, length, map, Bool, true, false, ◌&&◌, Less, Equal, if◌then◌else◌, Option, Some, None, pos, refl, sym, ap, subst, ◌∙◌, arith, IsPermutation}
use Rattle.std.specs.List.{AllByRecursion, list_all}
use Rattle.std.specs.Ordering.{ordering_reverse}
use Rattle.std.specs.Str.{bytes_eq, is_utf8}
use Rattle.std.proofs.lemmas.List.Sorted.{IsPermutation-sym, length_permutation}
use Rattle.std.proofs.lemmas.Slice.Eq.{bytes_eq-Decides}
use Rattle.std.proofs.lemmas.Str.{IsUtf8-from_is_utf8}
use Rattle.sqlite.proofs.Callers.{one_permutation}
use Rattle.table_schema.specs.sqlite_schema.specs.Rules.{equal}
use Rattle.table_schema.specs.sqlite_trees.proofs.ListLemmas.{IsPermutation-filter}
use Rattle.table_schema.specs.sqlite_value.proofs.OrderLemmas.{value_cmp_total}
use Rattle.table_schema.specs.sqlite_value.specs.Order.{Row, column, value_cmp}
use Rattle.table_schema.specs.sqlite_value.specs.declared.keys.Collation.TheVariants.{Binary}
use Rattle.table_schema.specs.sqlite_value.specs.declared.value.Value.TheVariants.{Text as Words}
use Rattle.tenant_core.specs.tenant_messages.specs.Reply.{success_status}
use Rattle.tenant_tables.proofs.Orders.{receipts_rise}
use Rattle.tenant_tables.proofs.Reading.{same_receipt}
use Rattle.tenant_tables.specs.Rows.{row_of_receipt}
use Rattle.tenant_core.specs.tenant_state.specs.Ordered.{is_ascending}
use Rattle.tenant_core.specs.tenant_state.specs.Receipts.{Receipts, is_before, receipt_of}
use Rattle.tenant_core.specs.tenant_state.specs.Valid.{is_receipt}
use Rattle.tenant_core.specs.tenant_state.specs.declared.receipts.Receipt.{Receipt}
use Rattle.tenant_tables.proofs.RowFacts.{apart, equal_parts, equal_words, itself}
use Rattle.table_schema.specs.Found.{AreReceipt, IsReceiptRow, IsRising, receipt_values}
use Rattle.table_schema.specs.Holds.{rows_with}
use Rattle.table_schema.specs.declared.rows.ReceiptRow.{ReceiptRow}

-- ---- rows that rise have a text once

no_later : (key : List ℕ) (row : Row) (rest : List Row) → column row 0 ≡ Words key → AllByRecursion (λ later. value_cmp (column row 0) (column later 0) ≡ Less) rest → rows_with 0 (Words key) rest ≡ []
no_later key row [] is all = refl
no_later key row (x ∷ xs) is all = go (no_later key row xs is all.1) (equal Binary (column x 0) (Words key)) refl
  where
    never : value_cmp (column x 0) (Words key) ≡ Equal → value_cmp (Words key) (column x 0) ≡ Less → ⊥
    never same less =
        let turn = value_cmp_total.antisymm (column x 0) (Words key) in
        let clash : Equal ≡ ordering_reverse Less = sym same ∙ turn ∙ ap ordering_reverse less in absurd cc

    go : rows_with 0 (Words key) xs ≡ [] → (b : Bool) → equal Binary (column x 0) (Words key) ≡ b → rows_with 0 (Words key) (x ∷ xs) ≡ []
    go rest true same = absurd (never (equal_parts (column x 0) (Words key) same).1 (subst (λ v. value_cmp v (column x 0) ≡ Less) is all.0))
    go rest false differs = rw differs rest

-- the row of a receipt that was found, or none
abbrev row_found : List ℕ → Option Receipt → List Row
row_found number None = []
row_found number (Some r) = row_of_receipt (number, r) ∷ []

found : (number : List ℕ) (receipts : Receipts) → IsRising (map row_of_receipt receipts) → rows_with 0 (Words number) (map row_of_receipt receipts) ≡ row_found number (receipt_of number receipts)
found number [] up = refl
found number (r ∷ rs) up = go (found number rs up.1) (bytes_eq number r.0) refl
  where
    other : number ≢ r.0 → bytes_eq r.0 number ≡ false
    other differs = apart r.0 number differs

    go : rows_with 0 (Words number) (map row_of_receipt rs) ≡ row_found number (receipt_of number rs) → (b : Bool) → bytes_eq number r.0 ≡ b → rows_with 0 (Words number) (map row_of_receipt (r ∷ rs)) ≡ row_found number (receipt_of number (r ∷ rs))
    go more true same =
        let is : number ≡ r.0 = (bytes_eq-Decides number r.0).0 same in
        let test : equal Binary (Words r.0) (Words number) ≡ true = equal_words r.0 number ∙ (ap (bytes_eq r.0) is ∙ itself r.0) in
        let rest = no_later number (row_of_receipt r) (map row_of_receipt rs) (ap Words (sym is)) up.0 in
        rw (test, same, rest) (ap (λ n. row_of_receipt (n, r.1) ∷ []) (sym is))
    go more false differs =
        let not : number ≢ r.0 = λ is. let never : true ≡ false = sym ((bytes_eq-Decides number r.0).1 is) ∙ differs in absurd cc in
        let test : equal Binary (Words r.0) (Words number) ≡ false = equal_words r.0 number ∙ other not in
        rw (test, differs) more

-- ---- rows in any order

as_few : (ys : List Row) → IsPermutation ys [] → ys ≡ []
as_few [] same = refl
as_few (y ∷ ys) same = absurd (omega (arith, length_permutation (y ∷ ys) [] same))

rows_found : (number : List ℕ) (o : Option Receipt) (ys : List Row) → IsPermutation ys (row_found number o) → ys ≡ row_found number o
rows_found number None ys same = as_few ys same
rows_found number (Some r) ys same = one_permutation (row_of_receipt (number, r)) ys (IsPermutation-sym ys (row_of_receipt (number, r) ∷ []) same)

-- ---- receipts have the form of rows

first : (a b : Bool) → (a && b) ≡ true → a ≡ true
first true b h = refl
first false b h = absurd cc

second : (a b : Bool) → (a && b) ≡ true → b ≡ true
second true b h = h
second false b h = absurd cc

some_is : (a b : Receipt) → Some a ≡ Some b → a ≡ b
some_is a b h = cc

in_range : (number : List ℕ) (receipts : Receipts) (r : Receipt) → list_all is_receipt receipts ≡ true → receipt_of number receipts ≡ Some r → is_receipt (number, r) ≡ true
in_range number [] r all is = absurd cc
in_range number (x ∷ xs) r all is = go (λ later. in_range number xs r (second (is_receipt x) (list_all is_receipt xs) all) later) (bytes_eq number x.0) refl is
  where
    go : (receipt_of number xs ≡ Some r → is_receipt (number, r) ≡ true) → (b : Bool) → bytes_eq number x.0 ≡ b → (if b then Some x.1 else receipt_of number xs) ≡ Some r → is_receipt (number, r) ≡ true
    go more true same found =
        let that : (x.0, x.1) ≡ (number, r) = let value = some_is x.1 r found in let name = (bytes_eq-Decides number x.0).0 same in λ k. (sym name k, value k) in
        ap is_receipt (sym that) ∙ first (is_receipt x) (list_all is_receipt xs) all
    go more false differs found = more found

-- the row of a receipt in its ranges is one that the tables can have
has_form : (number : List ℕ) (r : Receipt) → is_receipt (number, r) ≡ true → IsReceiptRow (row_of_receipt (number, r))
has_form number r is =
    let d = second _ (is_utf8 r.reply) is in
    let to_body = first _ (is_utf8 r.reply) is in
    let to_path = first _ (is_utf8 r.body) to_body in
    let to_number = first _ (is_utf8 r.path) to_path in
    (number, IsUtf8-from_is_utf8 number (second _ (is_utf8 number) to_number), r.path, IsUtf8-from_is_utf8 r.path (second _ (is_utf8 r.path) to_path), r.body, IsUtf8-from_is_utf8 r.body (second _ (is_utf8 r.body) to_body), pos (success_status r.status), r.reply, IsUtf8-from_is_utf8 r.reply d, refl)

module _ (number : List ℕ) (receipts : Receipts) (rows : List Row) (same : IsPermutation rows (map row_of_receipt receipts)) (order : is_ascending is_before receipts ≡ true) where
  -- the rows with the number are that of its receipt
  pub are_found : rows_with 0 (Words number) rows ≡ row_found number (receipt_of number receipts)
  are_found =
      let p = λ (row : Row). equal Binary (column row 0) (Words number) in
      rows_found number (receipt_of number receipts) (rows_with 0 (Words number) rows)
      (subst (IsPermutation (rows_with 0 (Words number) rows)) (found number receipts (receipts_rise receipts order)) (IsPermutation-filter p rows (map row_of_receipt receipts) same))

  none_there : (o : Option Receipt) → [] ≡ row_found number o → None ≡ o
  none_there None h = refl
  none_there (Some r) h = absurd (omega (arith, ap length h))

  -- no row: no receipt
  pub is_none : AreReceipt (rows_with 0 (Words number) rows) None → None ≡ receipt_of number receipts
  is_none empty = none_there (receipt_of number receipts) (sym empty ∙ are_found)

  one_of : (a b : Row) → a ∷ [] ≡ b ∷ [] → a ≡ b
  one_of a b h = cc

  that : (row : Row) (o : Option Receipt) → row ∷ [] ≡ row_found number o → (r : Receipt) × (o ≡ Some r) × (row ≡ row_of_receipt (number, r))
  that row None h = absurd (omega (arith, ap length h))
  that row (Some r) h = (r, refl, one_of row (row_of_receipt (number, r)) h)

  -- a row: that of the receipt
  pub is_row : (row : ReceiptRow) → AreReceipt (rows_with 0 (Words number) rows) (Some row) → (r : Receipt) × (receipt_of number receipts ≡ Some r) × (receipt_values row ≡ row_of_receipt (number, r))
  is_row row one = that (receipt_values row) (receipt_of number receipts) (sym one ∙ are_found)

  pub is_some_row : (row : ReceiptRow) (r : List ℕ × Receipt) → AreReceipt (rows_with 0 (Words number) rows) (Some row) → receipt_values row ≡ row_of_receipt r → Some r.1 ≡ receipt_of number receipts
  is_some_row row r one is =
      let it = is_row row one in
      let same_one : r ≡ (number, it.0) = same_receipt r (number, it.0) (sym is ∙ it.2) in
      ap (λ (x : List ℕ × Receipt). Some x.1) same_one ∙ sym it.1

  -- a row is that of a receipt in its ranges
  pub not_refused : list_all is_receipt receipts ≡ true → (row : ReceiptRow) → AreReceipt (rows_with 0 (Words number) rows) (Some row) → ¬ ((r : List ℕ × Receipt) → is_receipt r ≡ true → receipt_values row ≢ row_of_receipt r)
  not_refused ranges row one none = let it = is_row row one in none (number, it.0) (in_range number receipts it.0 ranges it.1) it.2

  refused_at : list_all is_receipt receipts ≡ true → (o : Option Receipt) → receipt_of number receipts ≡ o → (rows_with 0 (Words number) rows ≢ []) × ((row : Row) → IsReceiptRow row → rows_with 0 (Words number) rows ≢ row ∷ []) → ⊥
  refused_at ranges None is fault = fault.0 (are_found ∙ ap (row_found number) is)
  refused_at ranges (Some r) is fault = fault.1 (row_of_receipt (number, r)) (has_form number r (in_range number receipts r ranges is)) (are_found ∙ ap (row_found number) is)

  -- the tables do not refuse the rows with the number
  pub not_damaged : list_all is_receipt receipts ≡ true → ¬ ((rows_with 0 (Words number) rows ≢ []) × ((row : Row) → IsReceiptRow row → rows_with 0 (Words number) rows ≢ row ∷ []))
  not_damaged ranges fault = refused_at ranges (receipt_of number receipts) refl fault
