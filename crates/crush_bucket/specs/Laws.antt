-- What the laws say of the definitions, and of the tables of a map.
use Rattle.std.specs.Prelude.{◌≡◌, ◌≢◌, ℕ, ◌<◌, length, Some, Bool, true, false}
use Rattle.crush_map.specs.crush_types.specs.declared.ItemId.{ItemId}
use Rattle.crush_bucket.specs.Tables.{TablesView, pick_at, size_at, type_at, bucket_numbered, IsBelow}

-- a bucket that has items picks a device, or a bucket of a smaller number
abbrev pub PicksBelow : TablesView → Type 0
PicksBelow t = (bucket x r : ℕ) → bucket < length t.buckets → 0 < size_at t bucket → IsBelow t bucket (pick_at t bucket x r)

-- no bucket has type 0, that of devices
abbrev pub HasNoDeviceBucket : TablesView → Type 0
HasNoDeviceBucket t = (item : ItemId) (bucket : ℕ) → bucket_numbered t item ≡ Some bucket → type_at t bucket ≢ 0

-- i is the greatest number below n that passes
pub record IsGreatest (p : ℕ → Bool) (n i : ℕ) : Type 0 where
  pub below : i < n
  pub passes : p i ≡ true
  pub no_later : (j : ℕ) → i < j → j < n → p j ≡ false

-- no number below n passes
abbrev pub NonePasses : (ℕ → Bool) → ℕ → Type 0
NonePasses p n = (j : ℕ) → j < n → p j ≡ false
