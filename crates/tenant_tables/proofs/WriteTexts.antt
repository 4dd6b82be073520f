-- The texts that write rows, and what they mean.
use Rattle.std.proofs.Common.{◌≡◌, ℕ, pos, List, [], ◌∷◌, length, codes, refl}
use Rattle.sqlite.specs.declared.types.Value.TheVariants.{Null, Int}
use Rattle.sqlite.specs.Query.{Query}
use Rattle.sqlite.specs.Term.{Term, lit, col}
use Rattle.sqlite.specs.Source.TheVariants as source
use Rattle.table_schema.specs.sqlite_tied.specs.Compute.{everything}
use Rattle.sqlite.specs.Command.TheVariants.{Insert, Update, Delete}
use Rattle.sqlite.specs.Listing.{understood}
use Rattle.sqlite.proofs.Callers.{IsPlain, command_of}
use Rattle.table_schema.specs.declared.schema.Layout.{Layout}
use Rattle.table_schema.specs.declared.schema.Layout.TheVariants.{Compact, Gapped}
use Rattle.table_schema.specs.Layout.{store_schema, pools_tree, exceptions_tree}
use Rattle.table_schema.proofs.Queries.{plain_query, equals}

-- the text inserts one row of these terms into the table at the place
pub record InsertsOne (layout : Layout) (text : List ℕ) (place : ℕ) (terms : List Term) : Type 0 where
  pub command : command_of (understood (store_schema layout) text) ≡ Insert place (source.Values terms (length terms))
  pub plain : IsPlain (understood (store_schema layout) text)

abbrev pub create_text : List ℕ
create_text = codes "INSERT INTO tenants (name, epoch) VALUES (?1, 0)"

pub create_is : (layout : Layout) → InsertsOne layout create_text 1 (lit Null ∷ lit Null ∷ col 0 0 ∷ lit (Int (pos 0)) ∷ [])
unfolding understood everything
create_is Compact = record { command = refl; plain = (refl, refl) }
create_is Gapped = record { command = refl; plain = (refl, refl) }

abbrev pub add_version_text : List ℕ
add_version_text = codes "INSERT INTO maps (tenant, version, text) VALUES (?1, ?2, ?3)"

pub add_version_is : (layout : Layout) → InsertsOne layout add_version_text 3 (lit Null ∷ col 0 0 ∷ col 0 1 ∷ col 0 2 ∷ [])
unfolding understood everything
add_version_is Compact = record { command = refl; plain = (refl, refl) }
add_version_is Gapped = record { command = refl; plain = (refl, refl) }

abbrev pub add_state_text : List ℕ
add_state_text = codes "INSERT INTO devices (tenant, device, reweight, up) VALUES (?1, ?2, ?3, ?4)"

pub add_state_is : (layout : Layout) → InsertsOne layout add_state_text 4 (lit Null ∷ col 0 0 ∷ col 0 1 ∷ col 0 2 ∷ col 0 3 ∷ [])
unfolding understood everything
add_state_is Compact = record { command = refl; plain = (refl, refl) }
add_state_is Gapped = record { command = refl; plain = (refl, refl) }

abbrev pub add_pool_text : List ℕ
add_pool_text = codes "INSERT INTO pools_2 VALUES (?1, ?2, ?3, ?4, ?5, ?6, ?7, ?8, ?9, ?10)"

pub add_pool_is : (layout : Layout) → InsertsOne layout add_pool_text 6 (lit Null ∷ col 0 0 ∷ col 0 1 ∷ col 0 2 ∷ col 0 3 ∷ col 0 4 ∷ col 0 5 ∷ col 0 6 ∷ col 0 7 ∷ col 0 8 ∷ col 0 9 ∷ [])
unfolding understood everything
add_pool_is Compact = record { command = refl; plain = (refl, refl) }
add_pool_is Gapped = record { command = refl; plain = (refl, refl) }

abbrev pub add_receipt_text : List ℕ
add_receipt_text = codes "INSERT INTO receipts (tenant, request, path, body, status, reply) VALUES (?1, ?2, ?3, ?4, ?5, ?6)"

pub add_receipt_is : (layout : Layout) → InsertsOne layout add_receipt_text 5 (lit Null ∷ col 0 0 ∷ col 0 1 ∷ col 0 2 ∷ col 0 3 ∷ col 0 4 ∷ col 0 5 ∷ [])
unfolding understood everything
add_receipt_is Compact = record { command = refl; plain = (refl, refl) }
add_receipt_is Gapped = record { command = refl; plain = (refl, refl) }

abbrev pub add_exception_text : List ℕ
add_exception_text = codes "INSERT INTO exceptions VALUES (?1, ?2, ?3, ?4, ?5, ?6)"

pub add_exception_is : (layout : Layout) → InsertsOne layout add_exception_text 7 (lit Null ∷ col 0 0 ∷ col 0 1 ∷ col 0 2 ∷ col 0 3 ∷ col 0 4 ∷ col 0 5 ∷ [])
unfolding understood everything
add_exception_is Compact = record { command = refl; plain = (refl, refl) }
add_exception_is Gapped = record { command = refl; plain = (refl, refl) }

abbrev pub raise_text : List ℕ
raise_text = codes "UPDATE tenants SET epoch = ?2 WHERE id = ?1"

abbrev pub raise_query : Query
raise_query = plain_query 1 (equals 0 0 ∷ []) (col 1 0 ∷ col 1 0 ∷ lit Null ∷ col 1 2 ∷ col 0 1 ∷ [])

pub raise_is : (layout : Layout) → (command_of (understood (store_schema layout) raise_text) ≡ Update 1 (record { lets = []; body = raise_query })) × IsPlain (understood (store_schema layout) raise_text)
unfolding understood everything
raise_is Compact = (refl, (refl, refl))
raise_is Gapped = (refl, (refl, refl))

abbrev pub remove_text : List ℕ
remove_text = codes "DELETE FROM tenants WHERE id = ?1"

abbrev pub remove_query : Query
remove_query = plain_query 1 (equals 0 0 ∷ []) (col 1 0 ∷ [])

pub remove_is : (layout : Layout) → (command_of (understood (store_schema layout) remove_text) ≡ Delete 1 (record { lets = []; body = remove_query })) × IsPlain (understood (store_schema layout) remove_text)
unfolding understood everything
remove_is Compact = (refl, (refl, refl))
remove_is Gapped = (refl, (refl, refl))

-- the rows of a tenant with a key
abbrev pub keyed_query : ℕ → Query
keyed_query tree = plain_query tree (equals 1 0 ∷ equals 2 1 ∷ []) (col 1 0 ∷ [])

-- the text deletes them from the table at the place
pub record DeletesKeyed (layout : Layout) (text : List ℕ) (place tree : ℕ) : Type 0 where
  pub command : command_of (understood (store_schema layout) text) ≡ Delete place (record { lets = []; body = keyed_query tree })
  pub plain : IsPlain (understood (store_schema layout) text)

abbrev pub clear_state_text : List ℕ
clear_state_text = codes "DELETE FROM devices WHERE tenant = ?1 AND device = ?2"

pub clear_state_is : (layout : Layout) → DeletesKeyed layout clear_state_text 4 6
unfolding understood everything
clear_state_is Compact = record { command = refl; plain = (refl, refl) }
clear_state_is Gapped = record { command = refl; plain = (refl, refl) }

abbrev pub remove_pool_text : List ℕ
remove_pool_text = codes "DELETE FROM pools_2 WHERE tenant = ?1 AND id = ?2"

pub remove_pool_is : (layout : Layout) → DeletesKeyed layout remove_pool_text 6 (pools_tree layout)
unfolding understood everything
remove_pool_is Compact = record { command = refl; plain = (refl, refl) }
remove_pool_is Gapped = record { command = refl; plain = (refl, refl) }

abbrev pub clear_exceptions_text : List ℕ
clear_exceptions_text = codes "DELETE FROM exceptions WHERE tenant = ?1 AND pool = ?2"

pub clear_exceptions_is : (layout : Layout) → DeletesKeyed layout clear_exceptions_text 7 (exceptions_tree layout)
unfolding understood everything
clear_exceptions_is Compact = record { command = refl; plain = (refl, refl) }
clear_exceptions_is Gapped = record { command = refl; plain = (refl, refl) }
