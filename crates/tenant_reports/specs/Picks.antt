-- Picks, at `/t/{t}/pick`: POST asks which item a bucket picks. The bucket is described in the
-- body.
use Rattle.std.specs.Prelude.{ℕ, ◌≡◌, ◌≢◌, ◌≤◌, ◌&&◌, ◌||◌, ℤ, pos, negsuc, int_le, List, [], ◌∷◌, length, Bool, true, not, nat_lt, nat_le, if◌then◌else◌, Option, Some, None, option_and_then, codes}
use Rattle.std.specs.List.{All, AllPairs, list_any}
use Rattle.serde_json.specs.Data.{Data, number, object}
use Rattle.serde_json.specs.Find.{as_str, of_integer}
use Rattle.crush_bucket.specs.Bucket.{BucketView, WeightedItem, total_weight, HasEqualWeights}
use Rattle.crush_bucket.specs.Pick.{pick}
use Rattle.crush_map.specs.crush_types.specs.Kinds.{is_uniform, kind_name, kind_named}
use Rattle.crush_map.specs.crush_types.specs.Weights.{has_equal_weights}
use Rattle.crush_map.specs.crush_types.specs.declared.ItemId.{ItemId}
use Rattle.crush_map.specs.declared.limits.TheConstants.{ITEM_LIMIT, NUMBER_LIMIT, TOTAL_WEIGHT_LIMIT}
use Rattle.crush_map.specs.crush_types.specs.declared.Kind.{Kind}
use Rattle.crush_map.specs.crush_types.specs.declared.Kind.TheVariants.{Straw2, Uniform}
use Rattle.tenant_messages.specs.Forms.{IsNatural, IsInteger, IsText, IsListOf, HasExactly, IsUnder}
use Rattle.tenant_messages.specs.Json.{value_of, natural_of, integer_of, both, all_three, list_of, has_keys, under}
use Rattle.tenant_messages.specs.Reply.{Answer, success, members_of}
use Rattle.tenant_reports.specs.declared.limits.TheConstants.{ATTEMPT_LIMIT}
use Rattle.tenant_reports.specs.declared.picks.PickRequest.{PickRequest}

-- ---- the form of a body, and the pick that it says

-- {"item": -1 - NUMBER_LIMIT..NUMBER_LIMIT, "weight": 0..4294967295}
pub record IsItem (d : Data) (e : WeightedItem) : Type 0 where
  pub keys : HasExactly (codes "item" ∷ codes "weight" ∷ []) d
  pub item : IsUnder (codes "item") (IsInteger (negsuc NUMBER_LIMIT) (pos NUMBER_LIMIT)) d e.0.0
  pub weight : IsUnder (codes "weight") (IsNatural 4294967295) d e.1.0

-- "uniform", "list" or "tree"; straw2 is of texts that ask for it
abbrev pub IsKind : Data → Kind → Type 0
IsKind d kind = IsText d (kind_name kind) × (kind ≢ Straw2)

-- {"id": -1 - NUMBER_LIMIT..-1, "items": [ITEM, ..], "kind": KIND}: 1 to ITEM_LIMIT distinct items
-- other than the bucket, whose weights have a sum of at most TOTAL_WEIGHT_LIMIT, and are equal in a
-- uniform bucket
pub record IsBucket (d : Data) (b : BucketView) : Type 0 where
  pub keys : HasExactly (codes "id" ∷ codes "items" ∷ codes "kind" ∷ []) d
  pub id : IsUnder (codes "id") (IsInteger (negsuc NUMBER_LIMIT) (negsuc 0)) d b.id.0
  pub items : IsUnder (codes "items") (IsListOf IsItem) d b.items
  pub kind : IsUnder (codes "kind") IsKind d b.kind
  pub some : 1 ≤ length b.items
  pub few : length b.items ≤ ITEM_LIMIT
  pub distinct : AllPairs (λ e f. e.0 ≢ f.0) b.items
  pub others : All (λ e. e.0 ≢ b.id) b.items
  pub light : total_weight b.items ≤ TOTAL_WEIGHT_LIMIT
  pub equal : b.kind ≡ Uniform → HasEqualWeights b.items

-- {"bucket": BUCKET, "r": 0..ATTEMPT_LIMIT, "x": 0..4294967295}
pub record IsPickBody (d : Data) (p : PickRequest) : Type 0 where
  pub keys : HasExactly (codes "bucket" ∷ codes "r" ∷ codes "x" ∷ []) d
  pub bucket : IsUnder (codes "bucket") IsBucket d p.bucket
  pub r : IsUnder (codes "r") (IsNatural ATTEMPT_LIMIT) d p.r
  pub x : IsUnder (codes "x") (IsNatural 4294967295) d p.x

-- ---- reading a body

-- a pick is read exactly where the body has that form (law `picks_are_of_the_form`)

-- ---- items

abbrev pub weighed : ℤ → ℕ → WeightedItem
weighed id weight = (record { 0 = id }, record { 0 = weight })

abbrev pub entry_of : Data → Option WeightedItem
entry_of d =
    if has_keys 2 d then both weighed (under (codes "item") (integer_of (negsuc NUMBER_LIMIT) (pos NUMBER_LIMIT)) d) (under (codes "weight") (natural_of 4294967295) d) else None

abbrev pub is_of_item : ℤ → WeightedItem → Bool
is_of_item z e = int_le z e.0.0 && int_le e.0.0 z

-- no item comes twice
abbrev pub are_distinct : List WeightedItem → Bool
are_distinct [] = true
are_distinct (e ∷ es) = not (list_any (is_of_item e.0.0) es) && are_distinct es

-- ---- a bucket

abbrev pub kind_of : Data → Option Kind
kind_of d = option_and_then kind_named (as_str d)

-- 1 to ITEM_LIMIT distinct items other than the bucket, whose weights have a sum of at most
-- TOTAL_WEIGHT_LIMIT, and are equal in a uniform bucket
abbrev pub is_valid : BucketView → Bool
is_valid b =
    nat_lt 0 (length b.items) && nat_le (length b.items) ITEM_LIMIT && nat_le (total_weight b.items) TOTAL_WEIGHT_LIMIT
    && not (list_any (is_of_item b.id.0) b.items) && are_distinct b.items && (not (is_uniform b.kind) || has_equal_weights b.items)

abbrev pub if_valid : BucketView → Option BucketView
if_valid b = if is_valid b then Some b else None

abbrev pub bucket_of : Data → Option BucketView
bucket_of d =
    if has_keys 3 d then
    option_and_then if_valid (all_three (λ kind id es. record { id = record { 0 = id }; kind = kind; items = es })
    (under (codes "kind") kind_of d) (under (codes "id") (integer_of (negsuc NUMBER_LIMIT) (negsuc 0)) d)
    (under (codes "items") (list_of entry_of) d)) else None

-- ---- a body

abbrev pub pick_of : Data → Option PickRequest
pick_of d =
    if has_keys 3 d then
    all_three (λ b r x. record { bucket = b; x = x; r = r }) (under (codes "bucket") bucket_of d)
    (under (codes "r") (natural_of ATTEMPT_LIMIT) d) (under (codes "x") (natural_of 4294967295) d) else None

abbrev pub pick_request_of : List ℕ → Option PickRequest
pick_request_of body = option_and_then pick_of (value_of body)

-- ---- the answer

-- the body of the reply
abbrev pub picked : ItemId → Data
picked item = object (members_of ((codes "item", number (of_integer item.0)) ∷ []))

abbrev pub answer : PickRequest → Answer
answer p = success (picked (pick p.bucket p.x p.r))
