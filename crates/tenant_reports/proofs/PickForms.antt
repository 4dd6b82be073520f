-- A pick is read from a body exactly where the body has the form of one.
use Rattle.std.proofs.Common.{◌≡◌, ◌≢◌, ℕ, zero, suc, ◌&&◌, ◌||◌, ◌==◌, ◌≤◌, ℤ, pos, negsuc, List, [], ◌∷◌, length, Bool, not, nat_lt, nat_le, int_le, Option, Some, None, option_and_then, refl, ap, ◌∙◌, arith}
use Rattle.std.specs.Bool.{Decides}
use Rattle.std.specs.List.{All, AllPairs, list_any, list_all}
use Rattle.std.specs.Prelude.{codes}
use Rattle.std.proofs.lemmas.Bool.Decides.{Decides-and, Decides-by_and, Decides-eqb, Decides-like, Decides-not}
use Rattle.std.proofs.lemmas.Int.{ints}
use Rattle.serde_json.specs.Data.{Data}
use Rattle.serde_json.specs.Find.{as_str}
use Rattle.crush_bucket.specs.Bucket.{BucketView, WeightedItem, total_weight, HasEqualWeights}
use Rattle.crush_map.specs.crush_types.specs.Kinds.{is_uniform, kind_name, kind_named}
use Rattle.crush_map.specs.crush_types.proofs.Names.{kind_of_name, name_of_kind}
use Rattle.crush_map.specs.crush_types.specs.Weights.{has_equal_weights}
use Rattle.crush_map.specs.declared.limits.TheConstants.{ITEM_LIMIT, NUMBER_LIMIT, TOTAL_WEIGHT_LIMIT}
use Rattle.crush_map.specs.crush_types.specs.declared.ItemId.{ItemId}
use Rattle.crush_map.specs.crush_types.specs.declared.Kind.{Kind}
use Rattle.crush_map.specs.crush_types.specs.declared.Kind.TheVariants.{Uniform, List as ListKind, Tree, Straw2}
use Rattle.tenant_messages.proofs.Finding.{Finds, finds_as, finds_both, finds_integer, finds_list, finds_natural, finds_object, finds_tested, finds_text, finds_three, finds_under, is_there, Decides-leb}
use Rattle.tenant_reports.proofs.Deciding.{Decides-distinct, Decides-none, Differ}
use Rattle.tenant_reports.specs.declared.limits.TheConstants.{ATTEMPT_LIMIT}
use Rattle.tenant_reports.specs.Picks.{weighed, entry_of, is_of_item, are_distinct, kind_of, is_valid, bucket_of, pick_of, IsItem, IsKind, IsBucket, IsPickBody}

-- ---- an item

finds_entry : Finds entry_of IsItem
finds_entry = finds_as (λ d e is. record { keys = is.0; item = is.1.0; weight = is.1.1 }) (λ d e is. (is.keys, (is.item, is.weight)))
    (finds_object (codes "item" ∷ codes "weight" ∷ []) refl (λ d e is. (is_there (codes "item") d e.0.0 is.0, (is_there (codes "weight") d e.1.0 is.1, tt)))
    (finds_both weighed (λ e. e.0.0) (λ e. e.1.0) (λ a b. refl) (λ a b. refl) (λ e. refl)
    (finds_under (codes "item") (finds_integer (negsuc NUMBER_LIMIT) (pos NUMBER_LIMIT) refl)) (finds_under (codes "weight") (finds_natural 4294967295))))

-- ---- a kind

kind-says : (d : Data) (k : Kind) (o : Option (List ℕ)) → as_str d ≡ o → option_and_then kind_named o ≡ Some k → IsKind d k
kind-says d k None is h = cc
kind-says d k (Some name) is h =
    let named = name_of_kind name k h in (finds_text.says d (kind_name k) (is ∙ ap Some named.0), named.1)

finds_kind : Finds kind_of IsKind
finds_kind = record {
  says = λ d k h. kind-says d k (as_str d) refl h;
  found = λ d k is. rw (finds_text.found d (kind_name k) is.0) (kind_of_name k is.1);
}

-- ---- valid buckets

Decides-same : (z y : ℤ) → Decides (int_le z y && int_le y z) (y ≡ z)
Decides-same z y = (λ h. grind (arith, ints), λ h. grind (arith, ints))

Decides-other : (i : ItemId) (e : WeightedItem) → Decides (not (is_of_item i.0 e)) (e.0 ≢ i)
Decides-other i e =
    Decides-not (is_of_item i.0 e) (Decides-like (is_of_item i.0 e) (ap (λ z. record { 0 = z })) (ap (λ (j : ItemId). j.0)) (Decides-same i.0 e.0.0))

abbrev item_of : WeightedItem → ItemId
item_of e = e.0

like_first : (first : WeightedItem) (es : List WeightedItem) → All (λ (e : WeightedItem). e.1.0 ≡ first.1.0) es → HasEqualWeights (first ∷ es)
like_first first es rest zero d below = refl
like_first first es rest (suc k) d below = rest k d (omega arith)

Decides-equal : (es : List WeightedItem) → Decides (has_equal_weights es) (HasEqualWeights es)
Decides-equal [] = (λ h k d below. absurd (omega arith), λ h. refl)
Decides-equal (first ∷ es) =
    Decides-like (list_all (λ (e : WeightedItem). e.1.0 == first.1.0) es) (like_first first es) (λ h k d below. h (suc k) d (omega arith))
    (Decides-by_and (λ (e : WeightedItem). e.1.0 == first.1.0) (λ (e : WeightedItem). e.1.0 ≡ first.1.0) (list_all (λ (e : WeightedItem). e.1.0 == first.1.0))
    (λ e. Decides-eqb e.1.0 first.1.0) refl (λ e es. refl) es)

Decides-if_uniform : (k : Kind) (b : Bool) (P : Type 0) → Decides b P → Decides (not (is_uniform k) || b) (k ≡ Uniform → P)
Decides-if_uniform Uniform b P h = (λ yes same. h.0 yes, λ holds. h.1 (holds refl))
Decides-if_uniform ListKind b P h = (λ yes same. cc, λ holds. refl)
Decides-if_uniform Tree b P h = (λ yes same. cc, λ holds. refl)
Decides-if_uniform Straw2 b P h = (λ yes same. cc, λ holds. refl)

record IsValid (b : BucketView) : Type 0 where
  some : 1 ≤ length b.items
  few : length b.items ≤ ITEM_LIMIT
  distinct : AllPairs (Differ item_of) b.items
  others : All (λ e. e.0 ≢ b.id) b.items
  light : total_weight b.items ≤ TOTAL_WEIGHT_LIMIT
  equal : b.kind ≡ Uniform → HasEqualWeights b.items

Decides-is_valid : (b : BucketView) → Decides (is_valid b) (IsValid b)
Decides-is_valid b =
    Decides-like (is_valid b)
    (λ is. record { some = is.0.0.0.0.0; few = is.0.0.0.0.1; light = is.0.0.0.1; others = is.0.0.1; distinct = is.0.1; equal = is.1 })
    (λ is. (((((is.some, is.few), is.light), is.others), is.distinct), is.equal))
    (Decides-and _ (not (is_uniform b.kind) || has_equal_weights b.items)
    (Decides-and _ (are_distinct b.items)
    (Decides-and _ (not (list_any (is_of_item b.id.0) b.items))
    (Decides-and _ (nat_le (total_weight b.items) TOTAL_WEIGHT_LIMIT)
    (Decides-and (nat_lt 0 (length b.items)) (nat_le (length b.items) ITEM_LIMIT) (Decides-leb 1 (length b.items)) (Decides-leb (length b.items) ITEM_LIMIT))
    (Decides-leb (total_weight b.items) TOTAL_WEIGHT_LIMIT))
    (Decides-none (is_of_item b.id.0) (λ e. e.0 ≢ b.id) (Decides-other b.id) b.items))
    (Decides-distinct item_of (λ e. is_of_item e.0.0) are_distinct (λ e f. Decides-other e.0 f) refl (λ e es. refl) b.items))
    (Decides-if_uniform b.kind (has_equal_weights b.items) (HasEqualWeights b.items) (Decides-equal b.items)))

-- ---- a bucket

finds_bucket : Finds bucket_of IsBucket
finds_bucket = finds_as
    (λ d b is. record {
      keys = is.0;
      id = is.1.0.1;
      items = is.1.0.2;
      kind = is.1.0.0;
      some = is.1.1.some;
      few = is.1.1.few;
      distinct = is.1.1.distinct;
      others = is.1.1.others;
      light = is.1.1.light;
      equal = is.1.1.equal;
    })
    (λ d b is. (
      is.keys,
      (
        (is.kind, is.id, is.items),
        record { some = is.some; few = is.few; distinct = is.distinct; others = is.others; light = is.light; equal = is.equal },
      ),
    ))
    (finds_object (codes "id" ∷ codes "items" ∷ codes "kind" ∷ []) refl
    (λ d b is. (is_there (codes "id") d b.id.0 is.0.1, (is_there (codes "items") d b.items is.0.2, (is_there (codes "kind") d b.kind is.0.0, tt))))
    (finds_tested is_valid IsValid (λ b. (Decides-is_valid b).0) (λ b. (Decides-is_valid b).1)
    (finds_three (λ kind id es. record { id = record { 0 = id }; kind = kind; items = es }) (λ b. b.kind) (λ b. b.id.0) (λ b. b.items)
    (λ a b c. refl) (λ a b c. refl) (λ a b c. refl) (λ b. refl)
    (finds_under (codes "kind") finds_kind) (finds_under (codes "id") (finds_integer (negsuc NUMBER_LIMIT) (negsuc 0) refl)) (finds_under (codes "items") (finds_list finds_entry)))))

-- ---- the body

pub finds_pick : Finds pick_of IsPickBody
finds_pick = finds_as
    (λ d p is. record { keys = is.0; bucket = is.1.0; r = is.1.1; x = is.1.2 })
    (λ d p is. (is.keys, (is.bucket, is.r, is.x)))
    (finds_object (codes "bucket" ∷ codes "r" ∷ codes "x" ∷ []) refl
    (λ d p is. (is_there (codes "bucket") d p.bucket is.0, (is_there (codes "r") d p.r is.1, (is_there (codes "x") d p.x is.2, tt))))
    (finds_three (λ b r x. record { bucket = b; x = x; r = r }) (λ p. p.bucket) (λ p. p.r) (λ p. p.x)
    (λ a b c. refl) (λ a b c. refl) (λ a b c. refl) (λ p. refl)
    (finds_under (codes "bucket") finds_bucket) (finds_under (codes "r") (finds_natural ATTEMPT_LIMIT)) (finds_under (codes "x") (finds_natural 4294967295))))
