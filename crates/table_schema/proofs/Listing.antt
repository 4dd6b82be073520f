-- What the queries of a tenant's lists answer, and that of a receipt.
use Rattle.std.proofs.Common.{◌≡◌, ◌≢◌, ℕ, ℤ, pos, negsuc, List, [], ◌∷◌, map, filter, Bool, true, cond, ◌&&◌, codes, false, Option, Some, None, Result, Ok, Err, IfOk, IfSome, length, arith, Ordering, Equal, Less, Greater, refl, sym, ap, subst, ◌∙◌, map-id}
use Rattle.std.specs.List.{AllByRecursion}
use Rattle.std.specs.List.Sorted.{IsPermutation}
use Rattle.std.specs.Ordering.{ordering_then}
use Rattle.std.proofs.lemmas.List.Sorted.{IsPermutation-map, IsPermutation-trans, IsPermutation-sym, length_permutation}
use Rattle.sqlite_value.specs.declared.value.Value.TheVariants.{Int, Text as Words}
use Rattle.sqlite_value.specs.declared.keys.Key.{Key}
use Rattle.sqlite_value.specs.Order.{Row, column, value_cmp}
use Rattle.sqlite_trees.specs.Tree.{Trees, IsAscending}
use Rattle.sqlite_trees.proofs.ListLemmas.{map-map}
use Rattle.sqlite_schema.specs.declared.schema.Table as schema
use Rattle.sqlite_schema.specs.Rules.{equal}
use Rattle.sqlite_keyed.proofs.ListLemmas.{filter-map, map_same, ascending-map, ascending_weaker}
use Rattle.sqlite_keyed.proofs.SortLemmas.{sorted_unique}
use Rattle.sqlite_sql.specs.Query.{output_cmp}
use Rattle.sqlite_sql.proofs.QueryLemmas.{output_cmp_total}
use Rattle.sqlite_tied.specs.Compute.{everything}
use Rattle.sqlite.specs.Collation.TheVariants.{Binary}
use Rattle.sqlite.specs.Query.{Query, IsAnswer, Output, output, inner, end}
use Rattle.sqlite.specs.Program.{overlay}
use Rattle.sqlite.specs.Term.{Term, lit, col}
use Rattle.sqlite.specs.Listing.{understood}
use Rattle.sqlite.specs.State.{State, Shown}
use Rattle.sqlite.proofs.Callers.{one_permutation}
use Rattle.table_schema.specs.declared.schema.Layout.{Layout}
use Rattle.table_schema.specs.declared.schema.Layout.TheVariants.{Compact, Gapped}
use Rattle.table_schema.specs.Layout.{store_schema, receipts_tree, pools_tree, exceptions_tree, maps_table, devices_table, pools_table, exceptions_table, receipts_table}
use Rattle.table_schema.specs.Holds.{tree_of, rows_with, values_of, of_tenant}
use Rattle.table_schema.specs.Asked.{IsAnswered, Selects}
use Rattle.table_schema.specs.Ready.{IsReady}
use Rattle.table_schema.proofs.Places.{Places, places, read}
use Rattle.table_schema.specs.Found.{IsBelow, Precedes, AreOrderedBy, ListsBy, receipts_with, receipt_values, AreReceipt, IsReceiptRow}
use Rattle.table_schema.specs.declared.fault.ReadFault.{ReadFault}
use Rattle.table_schema.specs.declared.rows.ReceiptRow.{ReceiptRow}
use Rattle.table_schema.proofs.Queries.{plain_query, equals, staged_is, staged_are}
use Rattle.table_schema.proofs.Answering.{Means, answer_in, answer_of, is_answered, never_refused}

-- ---- lists in an order

abbrev up : Key
up = record { collation = Binary; descending = false }

abbrev pub ordered_query : ℕ → List Term → List (Term × Key) → Query
ordered_query tree project order = record {
  from = inner tree end;
  filter = equals 1 0 ∷ [];
  group = None;
  project = project;
  distinct = false;
  collations = [];
  order = order;
  limit = lit (Int (negsuc 0));
  offset = lit (Int (pos 0));
}

-- a row, behind the values that it is ordered by
abbrev pub with_key : (Row → Row) → Row → Output
with_key key row = (key row, row)

pub back : (key : Row → Row) (rows : List Row) → map (λ (o : Output). o.1) (map (with_key key) rows) ≡ rows
back key rows = map-map (λ (o : Output). o.1) (with_key key) rows ∙ map-id rows

abbrev pub first_value : Row → Row
first_value row = column row 0 ∷ []

abbrev first_values : Row → Row
first_values row = column row 0 ∷ column row 1 ∷ []

pub no_tie : (a b : Row) → IsBelow a b → ordering_then (value_cmp (column a 0) (column b 0)) Equal ≡ Less
no_tie a b less = ap (λ o. ordering_then o Equal) less

no_tie_then : (o p : Ordering) → ordering_then o p ≡ Less → ordering_then o (ordering_then p Equal) ≡ Less
no_tie_then Less p h = refl
no_tie_then Equal Less h = refl
no_tie_then Equal Equal h = h
no_tie_then Equal Greater h = h
no_tie_then Greater p h = h

module _ (Before : Row → Row → Type 0) (key : Row → Row) (table : schema.Table) (project : List Term) (order : List (Term × Key)) (less : (n : ℕ) (a b : Row) → Before a b → output_cmp (ordered_query n project order) (with_key key a) (with_key key b) ≡ Less)
    (shows : (n : ℕ) (id : ℤ) (r : Row) → output (ordered_query n project order) ((Int id ∷ []) ∷ r ∷ []) ≡ with_key key (values_of table r)) where
  rising_outputs : (tree : ℕ) (rows : List Row) → IsAscending Before rows → IsAscending (λ a b. output_cmp (ordered_query tree project order) a b ≡ Less) (map (with_key key) rows)
  rising_outputs tree rows up = ascending-map _ (with_key key) rows (ascending_weaker Before _ (less tree) rows up)

  reads_ordered : (tree : ℕ) (id : ℤ) (db : Trees) (rows : List Row) → tree_of db table.name ≡ tree → overlay db [] tree ≡ db tree → IsAnswer (ordered_query tree project order) (overlay db []) (Int id ∷ []) rows → AreOrderedBy Before (of_tenant table id db) rows
  reads_ordered tree id db rows at over a =
      let q = ordered_query tree project order in
      let params : Row = Int id ∷ [] in
      let all = of_tenant table id db in
      let staged = a.grouped ∙ staged_is params _ (overlay db [] tree) ∙ ap (λ rows. map (λ r. params ∷ r ∷ []) (rows_with 1 (Int id) rows)) over in
      let kept : a.kept ≡ map (with_key key) all =
      a.distinct ∙ ap (map (output q)) staged ∙ map-map (output q) (λ (r : Row). params ∷ r ∷ []) _ ∙ map_same _ _ (shows tree id) _ ∙ sym (map-map (with_key key) (values_of table) _)
      ∙ ap (λ t. map (with_key key) (map (values_of table) (rows_with 1 (Int id) (db t)))) (sym at) in
      let mixed : IsPermutation (map (with_key key) all) a.ordered = subst (λ k. IsPermutation k a.ordered) kept a.same in
      record {
        same = subst (IsPermutation all) (sym a.shown) (subst (λ l. IsPermutation l (map (λ (o : Output). o.1) a.ordered)) (back key all) (IsPermutation-map (λ (o : Output). o.1) _ a.ordered mixed));
        in_order = λ list is.
            let theirs = IsPermutation-trans _ _ _ (IsPermutation-sym _ _ (IsPermutation-map (with_key key) _ _ is.same)) mixed in
            let ordered = sorted_unique (output_cmp q) (output_cmp_total q) (map (with_key key) list) a.ordered (rising_outputs tree list is.rising) theirs a.sorted in
            a.shown ∙ ap (map (λ (o : Output). o.1)) ordered ∙ back key list;
      }

  selects : (text : List ℕ) (tree : Layout → ℕ) (names : List (List ℕ)) → ((layout : Layout) (db : Trees) → Places layout db → tree_of db table.name ≡ tree layout) → ((layout : Layout) (db : Trees) → overlay db [] (tree layout) ≡ db (tree layout))
      → ((id : ℤ) (layout : Layout) → Means layout text (Int id ∷ []) (ordered_query (tree layout) project order) names) → Selects Before table text
  selects text tree names at over means = record {
    answered = λ id. is_answered text (Int id ∷ []) (λ layout. ordered_query (tree layout) project order) names (means id);
    shows = λ layout id db rows has sound h.
        reads_ordered (tree layout) id db.trees rows (at layout db.trees (places layout db sound has)) (over layout db.trees) (answer_in text (Int id ∷ []) (λ layout. ordered_query (tree layout) project order) names (means id) layout db rows h);
  }

-- ---- the lists

abbrev versions_text : List ℕ
versions_text = codes "SELECT version, text FROM maps WHERE tenant = ?1 ORDER BY version"

abbrev versions_query : ℕ → Query
versions_query tree = ordered_query tree (col 1 2 ∷ col 1 3 ∷ []) ((col 1 2, up) ∷ [])

versions_mean : (id : ℤ) (layout : Layout) → Means layout versions_text (Int id ∷ []) (versions_query 4) (codes "version" ∷ codes "text" ∷ [])
unfolding understood everything
versions_mean id Compact = record { command = refl; listing = refl; plain = (refl, refl); answered = (omega arith, refl, refl, refl, never_refused _ (versions_query 4) (store_schema Compact) (Int id ∷ []) refl refl refl) }
versions_mean id Gapped = record { command = refl; listing = refl; plain = (refl, refl); answered = (omega arith, refl, refl, refl, never_refused _ (versions_query 4) (store_schema Gapped) (Int id ∷ []) refl refl refl) }

pub versions : Selects IsBelow maps_table versions_text
versions = selects IsBelow first_value maps_table (col 1 2 ∷ col 1 3 ∷ []) ((col 1 2, up) ∷ []) (λ n a b. no_tie a b) (λ n id r. refl) versions_text (λ _. 4) _ (λ layout db it. it.maps) (λ layout db. refl) versions_mean

abbrev devices_text : List ℕ
devices_text = codes "SELECT device, reweight, up FROM devices WHERE tenant = ?1 ORDER BY device"

abbrev devices_query : ℕ → Query
devices_query tree = ordered_query tree (col 1 2 ∷ col 1 3 ∷ col 1 4 ∷ []) ((col 1 2, up) ∷ [])

devices_mean : (id : ℤ) (layout : Layout) → Means layout devices_text (Int id ∷ []) (devices_query 6) (codes "device" ∷ codes "reweight" ∷ codes "up" ∷ [])
unfolding understood everything
devices_mean id Compact = record { command = refl; listing = refl; plain = (refl, refl); answered = (omega arith, refl, refl, refl, never_refused _ (devices_query 6) (store_schema Compact) (Int id ∷ []) refl refl refl) }
devices_mean id Gapped = record { command = refl; listing = refl; plain = (refl, refl); answered = (omega arith, refl, refl, refl, never_refused _ (devices_query 6) (store_schema Gapped) (Int id ∷ []) refl refl refl) }

pub devices : Selects IsBelow devices_table devices_text
devices = selects IsBelow first_value devices_table (col 1 2 ∷ col 1 3 ∷ col 1 4 ∷ []) ((col 1 2, up) ∷ []) (λ n a b. no_tie a b) (λ n id r. refl) devices_text (λ _. 6) _ (λ layout db it. it.devices) (λ layout db. refl) devices_mean

abbrev pools_text : List ℕ
pools_text = codes "SELECT id, name, erasure, size, rule, pg_num, pgp_num, hashpspool, pairs FROM pools_2 WHERE tenant = ?1 ORDER BY id"

abbrev pools_query : ℕ → Query
pools_query tree = ordered_query tree (col 1 2 ∷ col 1 3 ∷ col 1 4 ∷ col 1 5 ∷ col 1 6 ∷ col 1 7 ∷ col 1 8 ∷ col 1 9 ∷ col 1 10 ∷ []) ((col 1 2, up) ∷ [])

pools_mean : (id : ℤ) (layout : Layout) → Means layout pools_text (Int id ∷ []) (pools_query (pools_tree layout)) (codes "id" ∷ codes "name" ∷ codes "erasure" ∷ codes "size" ∷ codes "rule" ∷ codes "pg_num" ∷ codes "pgp_num" ∷ codes "hashpspool" ∷ codes "pairs" ∷ [])
unfolding understood everything
pools_mean id Compact = record { command = refl; listing = refl; plain = (refl, refl); answered = (omega arith, refl, refl, refl, never_refused _ (pools_query (pools_tree Compact)) (store_schema Compact) (Int id ∷ []) refl refl refl) }
pools_mean id Gapped = record { command = refl; listing = refl; plain = (refl, refl); answered = (omega arith, refl, refl, refl, never_refused _ (pools_query (pools_tree Gapped)) (store_schema Gapped) (Int id ∷ []) refl refl refl) }

pub pools : Selects IsBelow pools_table pools_text
pools = selects IsBelow first_value pools_table (col 1 2 ∷ col 1 3 ∷ col 1 4 ∷ col 1 5 ∷ col 1 6 ∷ col 1 7 ∷ col 1 8 ∷ col 1 9 ∷ col 1 10 ∷ []) ((col 1 2, up) ∷ []) (λ n a b. no_tie a b) (λ n id r. refl) pools_text pools_tree _ (λ layout db it. it.pools) (λ layout db. (read layout db).pools) pools_mean

abbrev exceptions_text : List ℕ
exceptions_text = codes "SELECT pool, place, grp, src, dst FROM exceptions WHERE tenant = ?1 ORDER BY pool, place"

abbrev exceptions_query : ℕ → Query
exceptions_query tree = ordered_query tree (col 1 2 ∷ col 1 3 ∷ col 1 4 ∷ col 1 5 ∷ col 1 6 ∷ []) ((col 1 2, up) ∷ (col 1 3, up) ∷ [])

exceptions_mean : (id : ℤ) (layout : Layout) → Means layout exceptions_text (Int id ∷ []) (exceptions_query (exceptions_tree layout)) (codes "pool" ∷ codes "place" ∷ codes "grp" ∷ codes "src" ∷ codes "dst" ∷ [])
unfolding understood everything
exceptions_mean id Compact = record { command = refl; listing = refl; plain = (refl, refl); answered = (omega arith, refl, refl, refl, never_refused _ (exceptions_query (exceptions_tree Compact)) (store_schema Compact) (Int id ∷ []) refl refl refl) }
exceptions_mean id Gapped = record { command = refl; listing = refl; plain = (refl, refl); answered = (omega arith, refl, refl, refl, never_refused _ (exceptions_query (exceptions_tree Gapped)) (store_schema Gapped) (Int id ∷ []) refl refl refl) }

pub exceptions : Selects Precedes exceptions_table exceptions_text
exceptions = selects Precedes first_values exceptions_table (col 1 2 ∷ col 1 3 ∷ col 1 4 ∷ col 1 5 ∷ col 1 6 ∷ []) ((col 1 2, up) ∷ (col 1 3, up) ∷ []) (λ n a b. no_tie_then (value_cmp (column a 0) (column b 0)) (value_cmp (column a 1) (column b 1))) (λ n id r. refl) exceptions_text exceptions_tree _ (λ layout db it. it.exceptions) (λ layout db. (read layout db).exceptions) exceptions_mean

-- rows that are ordered, and rise, are the list
pub lists_by : {A : Type 0} (Before : Row → Row → Type 0) (values : A → Row) (all rows : List Row) → AreOrderedBy Before all rows → (xs : List A) → (rows ≡ map values xs) × IsAscending Before rows → ListsBy Before all (map values xs)
lists_by Before values all rows ordered xs h = record { same = subst (IsPermutation all) h.0 ordered.same; rising = subst (IsAscending Before) h.0 h.1 }

pub lists_none : (IsOne : Row → Type 0) (Before : Row → Row → Type 0) (all rows : List Row) → AreOrderedBy Before all rows → (AllByRecursion IsOne rows → ¬ IsAscending Before rows) → (list : List Row) → AllByRecursion IsOne list → ¬ ListsBy Before all list
lists_none IsOne Before all rows ordered none list each is =
    let same = ordered.in_order list is in
    none (subst (AllByRecursion IsOne) (sym same) each) (subst (IsAscending Before) (sym same) is.rising)

-- ---- a receipt

abbrev pub receipt_text : List ℕ
receipt_text = codes "SELECT request, path, body, status, reply FROM receipts WHERE tenant = ?1 AND request = ?2"

abbrev pub receipt_query : ℕ → Query
receipt_query tree = plain_query tree (equals 1 0 ∷ equals 2 1 ∷ []) (col 1 2 ∷ col 1 3 ∷ col 1 4 ∷ col 1 5 ∷ col 1 6 ∷ [])

receipt_means : (id : ℤ) (request : List ℕ) (layout : Layout) → Means layout receipt_text (Int id ∷ Words request ∷ []) (receipt_query (receipts_tree layout)) (codes "request" ∷ codes "path" ∷ codes "body" ∷ codes "status" ∷ codes "reply" ∷ [])
unfolding understood everything
receipt_means id request Compact = record { command = refl; listing = refl; plain = (refl, refl); answered = (omega arith, refl, refl, refl, never_refused _ (receipt_query (receipts_tree Compact)) (store_schema Compact) (Int id ∷ Words request ∷ []) refl refl refl) }
receipt_means id request Gapped = record { command = refl; listing = refl; plain = (refl, refl); answered = (omega arith, refl, refl, refl, never_refused _ (receipt_query (receipts_tree Gapped)) (store_schema Gapped) (Int id ∷ Words request ∷ []) refl refl refl) }

pub receipt_answered : (id : ℤ) (request : List ℕ) → IsAnswered receipt_text (Int id ∷ Words request ∷ [])
receipt_answered id request = is_answered receipt_text _ (λ layout. receipt_query (receipts_tree layout)) _ (receipt_means id request)

-- the rows that pass two tests
pub filter_two : (p q : Row → Bool) (rows : List Row) → filter (λ r. p r && q r) rows ≡ filter q (filter p rows)
filter_two p q [] = refl
filter_two p q (r ∷ rows) = go (p r) (filter_two p q rows)
  where
    go : (a : Bool) → filter (λ r. p r && q r) rows ≡ filter q (filter p rows) → cond (a && q r) (r ∷ filter (λ r. p r && q r) rows) (filter (λ r. p r && q r) rows) ≡ filter q (cond a (r ∷ filter p rows) (filter p rows))
    go false more = more
    go true more = ap (λ l. cond (q r) (r ∷ l) l) more

pub reads_receipt : (id : ℤ) (request : List ℕ) (old new : State) (rows : List Row) → IsReady old → Shown receipt_text (Int id ∷ Words request ∷ []) old new rows
    → IsPermutation (receipts_with old.now.trees id request) rows
reads_receipt id request old new rows ready h =
    let params : Row = Int id ∷ Words request ∷ [] in
    let layout = ready.schema.0 in
    let tree = receipts_tree layout in
    let q = receipt_query tree in
    let a : IsAnswer q (overlay old.now.trees []) params rows = answer_of receipt_text params (λ layout. receipt_query (receipts_tree layout)) _ (receipt_means id request) old new rows ready h in
    let all = overlay old.now.trees [] tree in
    let mine : Row → Bool = λ r. equal Binary (column r 1) (Int id) in
    let asked : Row → Bool = λ r. equal Binary (column r 2) (Words request) in
    let passed : filter (λ r. mine r && asked r) all ≡ filter asked (rows_with 1 (Int id) all) = filter_two mine asked all in
    let staged = a.grouped ∙ staged_are params mine asked all ∙ ap (map (λ r. params ∷ r ∷ [])) passed in
    let with_it : List Row → List Row = λ here. rows_with 0 (Words request) (map (values_of receipts_table) (rows_with 1 (Int id) here)) in
    let kept : map (λ (o : Output). o.1) a.kept ≡ with_it all =
    ap (map (λ (o : Output). o.1)) (a.distinct ∙ ap (map (output q)) staged) ∙ ap (map (λ (o : Output). o.1)) (map-map (output q) (λ (r : Row). params ∷ r ∷ []) _) ∙ map-map (λ (o : Output). o.1) _ _
    ∙ sym (filter-map (λ r. equal Binary (column r 0) (Words request)) (values_of receipts_table) (rows_with 1 (Int id) all)) in
    let found : IsPermutation (with_it all) rows = subst (λ l. IsPermutation l rows) kept (subst (IsPermutation _) (sym a.shown) (IsPermutation-map (λ (o : Output). o.1) a.kept a.ordered a.same)) in
    subst (λ here. IsPermutation (with_it here) rows) ((read layout old.now.trees).receipts ∙ ap old.now.trees (sym (places layout old.now ready.sound ready.schema.1).receipts)) found

no_rows : (all rows : List Row) → IsPermutation all rows → rows ≡ [] → all ≡ []
no_rows [] rows same none = refl
no_rows (r ∷ all) rows same none = absurd (omega (arith, length_permutation _ _ same, ap length none))

pub one_receipt : (all rows : List Row) (result : Result (Option ReceiptRow) ReadFault) → IsPermutation all rows → IfOk result (λ o. IfSome o (λ x. rows ≡ receipt_values x ∷ [])) → IfOk result (λ o. o ≡ None → rows ≡ [])
    → IfOk result (AreReceipt all)
one_receipt all rows (Err e) same some none = tt
one_receipt all rows (Ok None) same some none = no_rows all rows same (none refl)
one_receipt all rows (Ok (Some receipt)) same some none = one_permutation (receipt_values receipt) all (IsPermutation-sym _ _ (subst (IsPermutation all) some same))

pub no_receipt : (all rows : List Row) → IsPermutation all rows → (rows ≢ []) × ((row : Row) → IsReceiptRow row → rows ≢ row ∷ []) → (all ≢ []) × ((row : Row) → IsReceiptRow row → all ≢ row ∷ [])
no_receipt all rows same not = (
  λ none. not.0 (no_rows rows all (IsPermutation-sym _ _ same) none),
  λ row is one. not.1 row is (one_permutation row rows (subst (λ l. IsPermutation l rows) one same)),
)
