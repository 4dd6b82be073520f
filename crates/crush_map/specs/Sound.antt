-- What holds for each part of a map.
use Rattle.std.specs.Prelude.{◌≡◌, ℕ, ℤ, pos, negsuc, ◌<◌, ◌≤◌, ◌^◌, ◌==◌, Bool, true, false, List, length, take, slice_get, Some, IfSome, ⊤}
use Rattle.std.specs.List.{list_any}
use Rattle.crush_map.specs.declared.draft.TypeName.{TypeName}
use Rattle.crush_map.specs.declared.draft.Device.{Device}
use Rattle.crush_map.specs.declared.draft.Bucket.{Bucket}
use Rattle.crush_map.specs.declared.draft.Rule.{Rule}
use Rattle.crush_map.specs.declared.draft.Step.{Step}
use Rattle.crush_map.specs.declared.draft.Step.TheVariants.{Take, SetChooseTries, SetLeafTries, SetVaryR, SetStable, Choose, Emit}
use Rattle.crush_types.specs.declared.ItemId.{ItemId}
use Rattle.crush_types.specs.declared.Weight.{Weight}
use Rattle.crush_map.specs.declared.limits.TheConstants.{TYPE_LIMIT, DEVICE_LIMIT, BUCKET_LIMIT, ITEM_LIMIT, RULE_LIMIT, STEP_LIMIT, NUMBER_LIMIT, RULE_ID_LIMIT, TRIES_LIMIT, VARY_R_LIMIT}
use Rattle.crush_map.specs.Faults.{is_bucket_id, is_heavy, is_count, is_name, is_reserved}
use Rattle.crush_types.specs.Kinds.{is_straw2, is_uniform}
use Rattle.crush_types.specs.Weights.{has_equal_weights, total_weight}
use Rattle.crush_map.specs.Map.{Map}

-- no value is at two places of a list
abbrev pub IsEachOnce : {X : Type 0} → List X → Type 0
IsEachOnce {X} xs = (x : X) (i j : ℕ) → slice_get xs i ≡ Some x → slice_get xs j ≡ Some x → i ≡ j

abbrev pub same_id : ℤ → ℤ → Bool
same_id (pos m) (pos n) = m == n
same_id (pos m) (negsuc n) = false
same_id (negsuc m) (pos n) = false
same_id (negsuc m) (negsuc n) = m == n

abbrev pub has_bucket : List Bucket → ℤ → Bool
has_bucket buckets id = list_any (λ b. same_id b.id.0 id) buckets

abbrev pub has_device : List Device → ℕ → Bool
has_device devices id = list_any (λ d. d.id == id) devices

abbrev pub has_type : List TypeName → ℕ → Bool
has_type types number = list_any (λ t. t.number == number) types

-- whether an id is that of a device or of a bucket in the lists
abbrev pub has_item : List Device → List Bucket → ℤ → Bool
has_item devices buckets (pos n) = has_device devices n
has_item devices buckets (negsuc n) = has_bucket buckets (negsuc n)

-- the item at place j of the bucket at place i: a device, or a bucket before that one; and none of
-- the items before it
pub record IsItemAt (m : Map) (i j : ℕ) (items : List (ItemId × Weight)) (id : ℤ) : Type 0 where
  pub declared : has_item m.devices (take i m.buckets) id ≡ true
  pub once : list_any (λ item. same_id item.0.0 id) (take j items) ≡ false

-- the bucket at place i
pub record IsBucketAt (m : Map) (i : ℕ) (b : Bucket) : Type 0 where
  pub place : i < BUCKET_LIMIT
  pub id : is_bucket_id b.id.0 ≡ true
  pub new : has_bucket (take i m.buckets) b.id.0 ≡ false
  pub name : is_name b.name ≡ true
  pub typed : has_type m.types b.kind_of ≡ true
  pub no_device : (b.kind_of == 0) ≡ false
  pub few : length b.items ≤ ITEM_LIMIT
  pub items : (j : ℕ) → IfSome (slice_get b.items j) (λ item. IsItemAt m i j b.items item.0.0)
  pub even : is_uniform b.alg ≡ true → has_equal_weights b.items ≡ true
  pub light : total_weight b.items < 2 ^ 32
  pub signed : is_straw2 b.alg ≡ true → list_any is_heavy b.items ≡ false

-- a choose step
pub record IsChoose (m : Map) (firstn leaf : Bool) (n : ℤ) (wanted : ℕ) : Type 0 where
  pub typed : has_type m.types wanted ≡ true
  pub count : is_count n ≡ true
  pub bucket : leaf ≡ true → firstn ≡ false → (wanted == 0) ≡ false

abbrev pub IsStep : Map → Step → Type 0
IsStep m (Take id) = has_item m.devices m.buckets id.0 ≡ true
IsStep m (SetChooseTries tries) = tries ≤ TRIES_LIMIT
IsStep m (SetLeafTries tries) = tries ≤ TRIES_LIMIT
IsStep m (SetVaryR value) = value ≤ VARY_R_LIMIT
IsStep m (SetStable value) = value ≤ 1
IsStep m (Choose firstn leaf n wanted) = IsChoose m firstn leaf n wanted
IsStep m Emit = ⊤

-- the rule at place i
pub record IsRuleAt (m : Map) (i : ℕ) (r : Rule) : Type 0 where
  pub place : i < RULE_LIMIT
  pub id : r.id ≤ RULE_ID_LIMIT
  pub name : is_name r.name ≡ true
  pub some : 1 ≤ length r.steps
  pub few : length r.steps ≤ STEP_LIMIT
  pub steps : (j : ℕ) → IfSome (slice_get r.steps j) (IsStep m)

-- the type at place i
pub record IsTypeAt (i : ℕ) (t : TypeName) : Type 0 where
  pub place : i < TYPE_LIMIT
  pub number : t.number ≤ NUMBER_LIMIT
  pub name : is_name t.name ≡ true
  pub not_reserved : is_reserved t.name ≡ false

-- the device at place i
pub record IsDeviceAt (i : ℕ) (d : Device) : Type 0 where
  pub place : i < DEVICE_LIMIT
  pub id : d.id ≤ NUMBER_LIMIT
  pub name : is_name d.name ≡ true
