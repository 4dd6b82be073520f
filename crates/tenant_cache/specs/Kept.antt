-- The inventories that are kept in memory.
use Rattle.std.specs.Prelude.{◌≡◌, ◌≢◌, ◌⊎◌, ℕ, List, Option, Some, bytes_eq}
use Rattle.std.specs.List.{sum_by}
use Rattle.std.specs.Map.{lookup, values_of}
use Rattle.tenant_state.specs.Size.{size}
use Rattle.tenant_state.specs.State.{Inventory}

-- what a tenant has, and pairs of the id of a pool and the number of the pool's content
pub record ReadyTenant : Type 0 where
  pub inventory : Inventory
  pub numbers : List (ℕ × ℕ)

-- what tenants have by name; the tenant used last comes first
pub record KeptTenants : Type 0 where
  pub entries : List (List ℕ × ReadyTenant)

-- what is kept of a name
abbrev pub kept_at : KeptTenants → List ℕ → Option ReadyTenant
kept_at kept name = lookup (bytes_eq name) kept.entries

-- the bytes that the kept entries take
abbrev pub bytes_kept : KeptTenants → ℕ
bytes_kept kept = sum_by (λ r. size r.inventory) (values_of kept.entries)

-- of the name `now` is kept, or nothing; of each other name the same as before, or nothing
abbrev pub Updates : List ℕ → Option ReadyTenant → KeptTenants → KeptTenants → Type 0
Updates name now old new =
    (u : List ℕ) (r : ReadyTenant) → kept_at new u ≡ Some r
    → ((u ≡ name) × (now ≡ Some r)) ⊎ ((u ≢ name) × (kept_at old u ≡ Some r))
