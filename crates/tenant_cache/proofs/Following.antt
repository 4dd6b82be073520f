-- What is kept is true of the states after a call.
use native.Mathlib.Omega.{arith}
use Rattle.std.proofs.Common.{◌≡◌, ◌+◌, ◌≢◌, ◌↔◌, ◌∙◌, inl, inr, ℕ, List, Option, Some, option_map, length, ap, subst, sym}
use Rattle.tenant_state.proofs.Counting.{grown}
use Rattle.tenant_state.specs.Receipts.{with_receipt}
use Rattle.tenant_state.specs.State.{CanMake, Change, TenantState, after, inventory_after, inventory_of}
use Rattle.tenant_cache.specs.Kept.{KeptTenants, ReadyTenant, Updates, kept_at}
use Rattle.tenant_cache.specs.Ready.{AreTrue}
use Rattle.tenant_core.specs.States.{States}

-- what a tenant has after a change is what its state after the change has
pub next_inventory : (change : Change) (s : TenantState) → CanMake change s → inventory_after change (inventory_of s) ≡ inventory_of (after change s)
next_inventory change s can =
    let one_more : length s.receipts + 1 ≡ length (with_receipt change.number change.receipt s.receipts) = omega (arith, grown change.number change.receipt s.receipts can.new) in
    ap (λ n. record (inventory_of (after change s)) { epoch = n }) one_more

-- after a change is made, and what the tenant then has is kept
pub committed : (old new : States) (before found after' : KeptTenants) (name : List ℕ) (change : Change) (r next : ReadyTenant) → AreTrue old before
    → ((u : List ℕ) (j : ReadyTenant) → kept_at found u ≡ Some j → kept_at before u ≡ Some j)
    → kept_at before name ≡ Some r → next.inventory ≡ inventory_after change r.inventory → Updates name (Some next) found after'
    → (s : TenantState) → old name (Some s) → CanMake change s → ((x y : Option TenantState) → old name x → old name y → x ≡ y)
    → new name (Some (after change s)) → ((t : List ℕ) (x : Option TenantState) → t ≢ name → (old t x ↔ new t x)) → AreTrue new after'
committed old new before found after' name change r next true_before within has is updates s there can one made others u j stands = elim (updates u j stands) [
  | inl mine ↦
      let was = true_before name r has in
      let state : was.0 ≡ Some s = one was.0 (Some s) was.1 there in
      let both : Some r.inventory ≡ Some (inventory_of s) = was.2 ∙ ap (option_map inventory_of) state in
      let of_state : r.inventory ≡ inventory_of s = cc in (
        Some (after change s),
        subst (λ t. new t (Some (after change s))) (sym mine.0) made,
        sym (ap (option_map (λ (x : ReadyTenant). x.inventory)) mine.1) ∙ ap Some (is ∙ ap (inventory_after change) of_state ∙ next_inventory change s can),
      )
  | inr other ↦ let was = true_before u j (within u j other.1) in (was.0, (others u was.0 other.0).0 was.1, was.2)
]
