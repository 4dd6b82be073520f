-- What is kept beside a store, and beside a cache of placements.
use Rattle.std.specs.Prelude.{◌≡◌, ◌⊎◌, ℕ, List, Contains, Ok, Some}
use Rattle.crush_cache.specs.Caches.{Numbered, WasNumberOf}
use Rattle.crush_pool.specs.Contents.{content_of}
use Rattle.crush_pool.specs.Placers.{PoolOnMap}
use Rattle.tenant_cache.specs.Kept.{KeptTenants, ReadyTenant, kept_at}
use Rattle.tenant_state.specs.State.{Inventory, TenantPool, on_newest, pool}
use Rattle.tenant_core.specs.States.{HasInventory, States}

-- each inventory that is kept is that of its name
abbrev pub AreTrue : States → KeptTenants → Type 0
AreTrue states kept = (name : List ℕ) (r : ReadyTenant) → kept_at kept name ≡ Some r → HasInventory states name (Some r.inventory)

-- a cache gave the number n to the content of the pool q on the newest version, if there is one
abbrev pub HasNumber : Numbered → Inventory → TenantPool → ℕ → Type 0
HasNumber cache inventory q n = (p : PoolOnMap) → on_newest inventory q ≡ Ok p → WasNumberOf cache n (content_of p)

-- each number that is kept beside what a tenant has is that of its pool
abbrev pub AreNumbersOf : Numbered → ReadyTenant → Type 0
AreNumbersOf cache r =
    (id n : ℕ) (q : TenantPool) → Contains r.numbers (id, n) → pool id r.inventory ≡ Some q → HasNumber cache r.inventory q n

abbrev pub AreKnown : Numbered → KeptTenants → Type 0
AreKnown cache kept = (name : List ℕ) (r : ReadyTenant) → kept_at kept name ≡ Some r → AreNumbersOf cache r

-- the same inventory, with a number for a pool; earlier numbers may be left out
pub record IsWithNumber (old : ReadyTenant) (id n : ℕ) (new : ReadyTenant) : Type 0 where
  pub inventory : new.inventory ≡ old.inventory
  pub numbers : (e : ℕ × ℕ) → Contains new.numbers e → (e ≡ (id, n)) ⊎ Contains old.numbers e

-- what is kept is unchanged, but the name may have other numbers of this cache
abbrev pub Renumbers : List ℕ → ReadyTenant → Numbered → KeptTenants → KeptTenants → Type 0
Renumbers name r cache old new =
    (u : List ℕ) (s : ReadyTenant) → kept_at new u ≡ Some s
    → (kept_at old u ≡ Some s) ⊎ ((u ≡ name) × (s.inventory ≡ r.inventory) × AreNumbersOf cache s)
