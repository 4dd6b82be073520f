-- Numbers that are kept beside what tenants have.
use Rattle.std.proofs.Common.{◌≡◌, ◌≢◌, ◌↔◌, ◌∙◌, ◌⊎◌, inl, inr, ℕ, List, [], Contains, Option, Some, None, sym, ap, subst}
use Rattle.lru.proofs.Splits.{Contains-nil}
use Rattle.crush_cache.specs.Caches.{KeepsNumbers, Numbered}
use Rattle.crush_pool.specs.Contents.{content_of}
use Rattle.tenant_state.specs.State.{TenantPool, TenantState, pool}
use Rattle.tenant_core.specs.States.{HasInventory, Same, States}
use Rattle.tenant_cache.specs.Kept.{KeptTenants, ReadyTenant, Updates, kept_at}
use Rattle.tenant_cache.specs.Ready.{AreKnown, AreNumbersOf, AreTrue, HasNumber, IsWithNumber, Renumbers}

-- ---- numbers of the cache

pub keeps_itself : (cache : Numbered) → KeepsNumbers cache cache
keeps_itself cache n c h = h

pub known_later : (old new : Numbered) (kept : KeptTenants) → KeepsNumbers old new → AreKnown old kept → AreKnown new kept
known_later old new kept keeps known name r at id n q here found p is = keeps n (content_of p) (known name r at id n q here found p is)

-- an entry without numbers
pub no_numbers : (cache : Numbered) (r : ReadyTenant) → r.numbers ≡ [] → AreNumbersOf cache r
no_numbers cache r none id n q here found = absurd (Contains-nil (id, n) (subst (λ es. Contains es (id, n)) none here))

pub with_number : (cache : Numbered) (r next : ReadyTenant) (p : TenantPool) (n : ℕ) → AreNumbersOf cache r → pool p.parts.id r.inventory ≡ Some p → HasNumber cache r.inventory p n → IsWithNumber r p.parts.id n next
    → AreNumbersOf cache next
with_number cache r next p n known there given is id m q here found =
    let was : pool id r.inventory ≡ Some q = subst (λ i. pool id i ≡ Some q) is.inventory found in
    subst (λ i. HasNumber cache i q m) (sym is.inventory) (elim (is.numbers (id, m) here) [
      | inl new ↦
          let both : Some q ≡ Some p = sym was ∙ ap (λ j. pool j r.inventory) (ap (λ (e : ℕ × ℕ). e.0) new) ∙ there in
          let same : p ≡ q = cc in
          subst (λ z. HasNumber cache r.inventory z m) same (subst (HasNumber cache r.inventory p) (sym (ap (λ (e : ℕ × ℕ). e.1) new)) given)
      | inr old ↦ known id m q old was
    ])

-- ---- what is kept after a call

pub known_among : (cache : Numbered) (old new : KeptTenants) → ((u : List ℕ) (r : ReadyTenant) → kept_at new u ≡ Some r → kept_at old u ≡ Some r) → AreKnown cache old → AreKnown cache new
known_among cache old new within known name r at = known name r (within name r at)

pub true_among : (states : States) (old new : KeptTenants) → ((u : List ℕ) (r : ReadyTenant) → kept_at new u ≡ Some r → kept_at old u ≡ Some r) → AreTrue states old → AreTrue states new
true_among states old new within true_before name r at = true_before name r (within name r at)

pub known_updated : (cache : Numbered) (old new : KeptTenants) (name : List ℕ) (now : Option ReadyTenant) → AreKnown cache old → ((r : ReadyTenant) → now ≡ Some r → AreNumbersOf cache r) → Updates name now old new → AreKnown cache new
known_updated cache old new name now known numbers updates u r at = elim (updates u r at) [
  | inl mine ↦ numbers r mine.1
  | inr others ↦ known u r others.1
]

nothing : (cache : Numbered) (r : ReadyTenant) → None ≡ Some r → AreNumbersOf cache r
nothing cache r is = absurd cc

-- after a name is forgotten
pub known_without : (cache : Numbered) (old new : KeptTenants) (name : List ℕ) → AreKnown cache old → Updates name None old new → AreKnown cache new
known_without cache old new name known updates = known_updated cache old new name None known (nothing cache) updates

-- where the states of other names are the same
pub true_without : (were are : States) (old new : KeptTenants) (name : List ℕ) → AreTrue were old → Updates name None old new → ((t : List ℕ) (x : Option TenantState) → t ≢ name → (were t x ↔ are t x)) → AreTrue are new
true_without were are old new name true_before updates others u r at = elim (updates u r at) [
  | inl mine ↦ let none : None ≡ Some r = mine.1 in absurd cc
  | inr other ↦ let was = true_before u r other.1 in (was.0, (others u was.0 other.0).0 was.1, was.2)
]

-- where all states are the same
pub true_same : (were are : States) (kept : KeptTenants) → Same were are → AreTrue were kept → AreTrue are kept
true_same were are kept same true_before u r at = let was = true_before u r at in (was.0, (same u was.0).0 was.1, was.2)

-- after an entry with no number is kept for a name
some_is : (r s : ReadyTenant) → Some r ≡ Some s → r ≡ s
some_is r s is = cc

pub known_put : (cache : Numbered) (old new : KeptTenants) (name : List ℕ) (v : ReadyTenant) → AreKnown cache old → v.numbers ≡ [] → Updates name (Some v) old new → AreKnown cache new
known_put cache old new name v known none updates = known_updated cache old new name (Some v) known (λ r is. subst (AreNumbersOf cache) (some_is v r is) (no_numbers cache v none)) updates

pub true_put : (states : States) (old new : KeptTenants) (name : List ℕ) (v : ReadyTenant) → AreTrue states old → HasInventory states name (Some v.inventory) → Updates name (Some v) old new → AreTrue states new
true_put states old new name v true_before has updates u r at = elim (updates u r at) [
  | inl mine ↦ subst (λ (s : ReadyTenant). HasInventory states u (Some s.inventory)) (some_is v r mine.1) (subst (λ t. HasInventory states t (Some v.inventory)) (sym mine.0) has)
  | inr others ↦ true_before u r others.1
]

-- after a name has other numbers of the cache
pub known_renumbered : (was cache : Numbered) (old new : KeptTenants) (name : List ℕ) (r : ReadyTenant) → KeepsNumbers was cache → AreKnown was old → Renumbers name r cache old new → AreKnown cache new
known_renumbered was cache old new name r keeps known renumbers u s at = elim (renumbers u s at) [
  | inl before ↦ known_later was cache old keeps known u s before
  | inr mine ↦ mine.2
]

pub true_renumbered : (states : States) (cache : Numbered) (old new : KeptTenants) (name : List ℕ) (r : ReadyTenant) → AreTrue states old → HasInventory states name (Some r.inventory) → Renumbers name r cache old new → AreTrue states new
true_renumbered states cache old new name r true_before has renumbers u s at = elim (renumbers u s at) [
  | inl was ↦ true_before u s was
  | inr mine ↦ subst (λ i. HasInventory states u (Some i)) (sym mine.1) (subst (λ t. HasInventory states t (Some r.inventory)) (sym mine.0) has)
]

pub renumbered : (was cache : Numbered) (old new : KeptTenants) (name : List ℕ) (r : ReadyTenant) (p : TenantPool) (n : ℕ) → KeepsNumbers was cache → AreNumbersOf was r → pool p.parts.id r.inventory ≡ Some p → HasNumber cache r.inventory p n
    → ((u : List ℕ) (s : ReadyTenant) → kept_at new u ≡ Some s → (kept_at old u ≡ Some s) ⊎ ((u ≡ name) × IsWithNumber r p.parts.id n s)) → Renumbers name r cache old new
renumbered was cache old new name r p n keeps known there given beside u s at = elim (beside u s at) [
  | inl before ↦ inl before
  | inr mine ↦ inr (
    mine.0,
    mine.1.inventory,
    with_number cache r s p n (λ id m q here found o is. keeps m (content_of o) (known id m q here found o is)) there given mine.1,
  )
]
