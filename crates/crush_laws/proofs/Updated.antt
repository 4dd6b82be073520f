-- What is kept after an update of a name.
use Rattle.std.proofs.Common.{◌≡◌, ◌≢◌, ◌⊎◌, inl, inr, ℕ, List, Option, Some, None, refl, ◌∙◌}
use Rattle.tenant_cache.specs.Kept.{KeptTenants, ReadyTenant, Updates, kept_at}

pub own_update : (name : List ℕ) (now : Option ReadyTenant) (old new : KeptTenants) (r : ReadyTenant) → Updates name now old new → kept_at new name ≡ Some r → now ≡ Some r
own_update name now old new r updates kept = elim (updates name r kept) [
  | inl own ↦ own.1
  | inr other ↦ absurd (other.0 refl)
]

no_some : (name : List ℕ) (old new : KeptTenants) (o : Option ReadyTenant) → Updates name None old new → kept_at new name ≡ o → o ≡ None
no_some name old new None updates kept = refl
no_some name old new (Some r) updates kept = let e : None ≡ Some r = own_update name None old new r updates kept in cc

pub no_update : (name : List ℕ) (old new : KeptTenants) → Updates name None old new → kept_at new name ≡ None
no_update name old new updates = no_some name old new (kept_at new name) updates refl

pub other_update : (name other : List ℕ) (now : Option ReadyTenant) (old new : KeptTenants) (r : ReadyTenant) → Updates name now old new → other ≢ name → kept_at new other ≡ Some r → kept_at old other ≡ Some r
other_update name other now old new r updates ne kept = elim (updates other r kept) [
  | inl own ↦ absurd (ne own.0)
  | inr same ↦ same.1
]
