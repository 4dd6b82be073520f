-- What queries leave, and what they answer.
use Rattle.std.proofs.Common.{◌≡◌, ◌≢◌, inl, inr, ℕ, ℤ, List, [], ◌∷◌, map, codes, Option, Some, None, Result, Ok, Err, IfOk, IfSome, refl, sym, ap, subst, ◌∙◌, arith}
use Rattle.std.specs.List.Sorted.{IsPermutation}
use Rattle.std.proofs.lemmas.List.Sorted.{IsPermutation-map, length_permutation}
use Rattle.sqlite_value.specs.declared.value.Value.TheVariants.{Int, Text as Words}
use Rattle.sqlite_trees.specs.Tree.{Trees}
use Rattle.table_schema.specs.declared.find.Tenant.{Tenant}
use Rattle.table_schema.specs.declared.fault.ReadFault.{ReadFault}
use Rattle.sqlite_value.specs.Order.{Row, column}
use Rattle.sqlite_trees.proofs.ListLemmas.{map-map}
use Rattle.sqlite_tied.specs.Compute.{everything}
use Rattle.sqlite.specs.Query.{Query, IsAnswer, Output, output}
use Rattle.sqlite.specs.Program.{overlay}
use Rattle.sqlite.specs.Term.{col}
use Rattle.sqlite.specs.Listing.{understood}
use Rattle.sqlite.specs.State.{State, Shown, IsUnchanged}
use Rattle.sqlite.proofs.Callers.{one_permutation}
use Rattle.table_schema.specs.Layout.{store_schema}
use Rattle.table_schema.specs.Holds.{rows_with, tenants_of, AreTables}
use Rattle.table_schema.specs.declared.schema.Layout.{Layout}
use Rattle.table_schema.specs.declared.schema.Layout.TheVariants.{Compact, Gapped}
use Rattle.table_schema.proofs.Places.{places}
use Rattle.table_schema.specs.Asked.{IsAnswered}
use Rattle.table_schema.specs.Found.{head_of, Names}
use Rattle.table_schema.proofs.Answering.{Means, answer_of, is_answered, never_refused}
use Rattle.table_schema.specs.Ready.{Rests, IsReady, Remains}
use Rattle.table_schema.proofs.Queries.{plain_query, equals, staged_is}
use Rattle.sqlite.specs.Effect.{Database, IsDatabase}

-- what leaves all as it is leaves the connection ready
pub remains : (old new : State) → IsReady old → IsUnchanged old new → new.step_limit ≡ old.step_limit → Remains old new
remains old new ready same limit = record {
  ready = record {
    is_open = same.0.is_open;
    schema = (ready.schema.0, ap (λ (db : Database). db.schema) same.0.now_is ∙ ready.schema.1);
    tables = subst (λ (db : Database). AreTables db.trees) (sym same.0.now_is) ready.tables;
    sound = subst IsDatabase (sym same.0.now_is) ready.sound;
    settled = same.0.now_is ∙ ready.settled ∙ sym same.0.committed_is;
    unlimited = limit ∙ ready.unlimited;
  };
  same = same.0.now_is;
}

-- going back to the last commit does so too, while the connection is open
pub remains_after : (old mid new : State) → IsReady old → Rests old mid → IsUnchanged mid new → mid.step_limit ≡ old.step_limit → new.step_limit ≡ mid.step_limit → Remains old new
remains_after old mid new ready (inl same) after limit again = let first = remains old mid ready same limit in let last = remains mid new first.ready after again in record { ready = last.ready; same = last.same ∙ first.same }
remains_after old mid new ready (inr kept) after limit again =
    let now : mid.now ≡ old.now = kept.now after.0.was_open ∙ sym ready.settled in
    let first : IsReady mid = record {
      is_open = after.0.was_open;
      schema = (ready.schema.0, ap (λ (db : Database). db.schema) now ∙ ready.schema.1);
      tables = subst (λ (db : Database). AreTables db.trees) (sym now) ready.tables;
      sound = subst IsDatabase (sym now) ready.sound;
      settled = kept.now after.0.was_open ∙ sym (kept.committed after.0.was_open);
      unlimited = limit ∙ ready.unlimited;
    } in
    let last = remains mid new first after again in
    record { ready = last.ready; same = last.same ∙ now }

-- ---- the number and the epoch of a name

abbrev pub find_text : List ℕ
find_text = codes "SELECT id, epoch FROM tenants WHERE name = ?1"

abbrev pub find_query : Query
find_query = plain_query 1 (equals 2 0 ∷ []) (col 1 0 ∷ col 1 3 ∷ [])

find_means : (name : List ℕ) (layout : Layout) → Means layout find_text (Words name ∷ []) find_query (codes "id" ∷ codes "epoch" ∷ [])
unfolding understood everything
find_means name Compact = record { command = refl; listing = refl; plain = (refl, refl); answered = (omega arith, refl, refl, refl, never_refused _ find_query (store_schema Compact) (Words name ∷ []) refl refl refl) }
find_means name Gapped = record { command = refl; listing = refl; plain = (refl, refl); answered = (omega arith, refl, refl, refl, never_refused _ find_query (store_schema Gapped) (Words name ∷ []) refl refl refl) }

pub find_answered : (name : List ℕ) → IsAnswered find_text (Words name ∷ [])
find_answered name = is_answered find_text _ (λ _. find_query) _ (find_means name)

pub finds : (old new : State) (name : List ℕ) (rows : List Row) → IsReady old → Shown find_text (Words name ∷ []) old new rows → IsPermutation (map head_of (tenants_of old.now.trees name)) rows
finds old new name rows ready h =
    let params : Row = Words name ∷ [] in
    let layout = ready.schema.0 in
    let a : IsAnswer find_query (overlay old.now.trees []) params rows = answer_of find_text params (λ _. find_query) _ (find_means name) old new rows ready h in
    let here : List Row = rows_with 2 (Words name) (old.now.trees 1) in
    let staged = a.grouped ∙ staged_is params _ (old.now.trees 1) in
    let kept : map (λ (o : Output). o.1) a.kept ≡ map head_of here =
    ap (map (λ (o : Output). o.1)) (a.distinct ∙ ap (map (output find_query)) staged) ∙ ap (map (λ (o : Output). o.1)) (map-map (output find_query) (λ (r : Row). params ∷ r ∷ []) _) ∙ map-map (λ (o : Output). o.1) _ _ in
    let found : IsPermutation (map head_of here) rows = subst (λ l. IsPermutation l rows) kept (subst (IsPermutation _) (sym a.shown) (IsPermutation-map (λ (o : Output). o.1) a.kept a.ordered a.same)) in
    subst (λ tree. IsPermutation (map head_of (rows_with 2 (Words name) (old.now.trees tree))) rows) (sym (places layout old.now ready.sound ready.schema.1).tenants) found

-- what the rows say of the name
pub names : (db : Trees) (name : List ℕ) (rows : List Row) (result : Result (Option Tenant) ReadFault) → IsPermutation (map head_of (tenants_of db name)) rows
    → IfOk result (λ o. IfSome o (λ t. rows ≡ (Int t.id ∷ Int t.epoch ∷ []) ∷ [])) → IfOk result (λ o. o ≡ None → rows ≡ []) → IfOk result (Names db name)
names db name rows (Err e) same some none = tt
names db name rows (Ok None) same some none = none_left (tenants_of db name) (subst (IsPermutation (map head_of (tenants_of db name))) (none refl) same)
  where
    none_left : (all : List Row) → IsPermutation (map head_of all) [] → all ≡ []
    none_left [] same = refl
    none_left (r ∷ rows) same = absurd (omega (arith, length_permutation _ _ same))
names db name rows (Ok (Some t)) same some none = one_left (tenants_of db name) (subst (IsPermutation (map head_of (tenants_of db name))) some same)
  where
    one_left : (all : List Row) → IsPermutation (map head_of all) ((Int t.id ∷ Int t.epoch ∷ []) ∷ []) → (row : Row) × (all ≡ row ∷ []) × (column row 0 ≡ Int t.id) × (column row 3 ≡ Int t.epoch)
    one_left [] same = absurd (omega (arith, length_permutation _ _ same))
    one_left (r ∷ []) same = let e = one_permutation _ _ same in (r, refl, (let h = e in cc), (let h = e in cc))
    one_left (r ∷ s ∷ rows) same = absurd (omega (arith, length_permutation _ _ same))

-- where there are rows, but not one head alone, they fit neither a tenant nor its absence
pub names_none : (db : Trees) (name : List ℕ) (rows : List Row) → IsPermutation (map head_of (tenants_of db name)) rows → rows ≢ [] → ((id epoch : ℤ) → rows ≢ (Int id ∷ Int epoch ∷ []) ∷ [])
    → (o : Option Tenant) → Names db name o → ⊥
names_none db name rows same some other None h = some (none_of rows (subst (λ l. IsPermutation (map head_of l) rows) h same))
  where
    none_of : (rows : List Row) → IsPermutation [] rows → rows ≡ []
    none_of [] same = refl
    none_of (r ∷ rows) same = absurd (omega (arith, length_permutation _ _ same))
names_none db name rows same some other (Some t) h =
    other t.id t.epoch (one_permutation _ rows (subst (λ l. IsPermutation l rows) (ap (map head_of) h.1 ∙ rw (h.2, h.3)) same))
