-- The version that the tables have.
use Rattle.std.proofs.Common.{◌≡◌, inl, inr, ℕ, List, [], ◌∷◌, map, flat_map, false, refl, sym, ap, subst, ◌∙◌, codes}
use Rattle.std.specs.List.Sorted.{IsPermutation}
use Rattle.std.proofs.lemmas.List.Sorted.{IsPermutation-map, IsPermutation-sym}
use Rattle.table_schema.specs.sqlite_value.specs.declared.value.Value.TheVariants.{Null}
use Rattle.table_schema.specs.sqlite_value.specs.Order.{Row, column}
use Rattle.sqlite_trees.proofs.ListLemmas.{map-map}
use Rattle.table_schema.specs.sqlite_tied.specs.Compute.{everything}
use Rattle.sqlite.specs.Query.{Query, IsAnswer, Output, output}
use Rattle.sqlite.specs.Program.{overlay}
use Rattle.sqlite.specs.Term.{col}
use Rattle.sqlite.specs.Schema.{Schema}
use Rattle.sqlite.specs.Command.TheVariants.{Select}
use Rattle.sqlite.specs.Listing.{understood, reads_listing}
use Rattle.sqlite.specs.Effect.{Database, IsDatabase}
use Rattle.sqlite.specs.State.{State, Shown}
use Rattle.sqlite.proofs.Callers.{IsPlain, command_of, reads_as, one_permutation}
use Rattle.table_schema.specs.declared.schema.Layout.{Layout}
use Rattle.table_schema.specs.declared.schema.Layout.TheVariants.{Compact, Gapped}
use Rattle.table_schema.specs.Layout.{store_schema, first_schema, info_table}
use Rattle.table_schema.specs.Holds.{tree_of, rows_in}
use Rattle.table_schema.proofs.Places.{places, first_places}
use Rattle.table_schema.proofs.Queries.{plain_query}
use Rattle.tenant_tables.specs.Opened.{IsKnown}

abbrev pub versions_text : List ℕ
versions_text = codes "SELECT one, version FROM schema_info"

abbrev pub versions_query : Query
versions_query = plain_query 0 [] (col 1 0 ∷ col 1 2 ∷ [])

-- the text asks for the rows of schema_info
pub record AsksVersions (schema : Schema) : Type 0 where
  pub command : command_of (understood schema versions_text) ≡ Select (record { lets = []; body = versions_query }) (codes "one" ∷ codes "version" ∷ [])
  pub tables : reads_listing schema versions_text ≡ false
  pub plain : IsPlain (understood schema versions_text)

first_asks : AsksVersions first_schema
unfolding understood everything
first_asks = record { command = refl; tables = refl; plain = (refl, refl) }

store_asks : (layout : Layout) → AsksVersions (store_schema layout)
unfolding understood everything
store_asks Compact = record { command = refl; tables = refl; plain = (refl, refl) }
store_asks Gapped = record { command = refl; tables = refl; plain = (refl, refl) }

pub asks_versions : (schema : Schema) → IsKnown schema → AsksVersions schema
asks_versions schema (inl is) = subst AsksVersions (sym is) first_asks
asks_versions schema (inr (layout, is)) = subst AsksVersions (sym is) (store_asks layout)

info_there : (db : Database) → IsDatabase db → IsKnown db.schema → tree_of db.trees (codes "schema_info") ≡ 0
info_there db sound (inl is) = (first_places db sound is).info
info_there db sound (inr (layout, is)) = (places layout db sound is).info

abbrev pub pair : Row → Row
pair row = column row 0 ∷ column row 2 ∷ []

all_staged : (params : Row) (rows : List Row) → flat_map (λ r. (params ∷ r ∷ []) ∷ []) rows ≡ map (λ r. params ∷ r ∷ []) rows
all_staged params [] = refl
all_staged params (r ∷ rows) = ap (λ l. (params ∷ r ∷ []) ∷ l) (all_staged params rows)

pub finds_versions : (old new : State) (rows : List Row) → IsDatabase old.now → IsKnown old.now.schema → Shown versions_text [] old new rows → IsPermutation (map pair (rows_in info_table old.now.trees)) rows
finds_versions old new rows sound known h =
    let its = asks_versions old.now.schema known in
    let got = reads_as versions_text [] old new old.now.schema refl _ its.command its.plain its.tables rows h in
    let a : IsAnswer versions_query (overlay old.now.trees []) [] rows = got.answer Null in
    let staged = a.grouped ∙ all_staged [] (old.now.trees 0) in
    let kept : map (λ (o : Output). o.1) a.kept ≡ map pair (old.now.trees 0) =
    ap (map (λ (o : Output). o.1)) (a.distinct ∙ ap (map (output versions_query)) staged) ∙ ap (map (λ (o : Output). o.1)) (map-map (output versions_query) (λ (r : Row). [] ∷ r ∷ []) _) ∙ map-map (λ (o : Output). o.1) _ _ in
    subst (λ n. IsPermutation (map pair (old.now.trees n)) rows) (sym (info_there old.now sound known))
    (subst (λ l. IsPermutation l rows) kept (subst (IsPermutation _) (sym a.shown) (IsPermutation-map (λ (o : Output). o.1) a.kept a.ordered a.same)))

-- the rows say the version exactly where the answer does
pub says_version : (one : Row) (all rows : List Row) → IsPermutation (map pair all) rows → rows ≡ one ∷ [] → map pair all ≡ one ∷ []
says_version one all rows same is = one_permutation one (map pair all) (IsPermutation-sym _ _ (subst (IsPermutation _) is same))

pub has_version : (one : Row) (all rows : List Row) → IsPermutation (map pair all) rows → map pair all ≡ one ∷ [] → rows ≡ one ∷ []
has_version one all rows same has = one_permutation one rows (subst (λ l. IsPermutation l rows) has same)
