-- The states of the store in `fixed.rt` are those of tenants that were just created.
use Rattle.std.proofs.Common.{◌≡◌, ℕ, List, Bool, true, false, if◌then◌else◌, Some, None, subst}
use Rattle.service_tests.specs.Fixed.{begins_with, state_of}
use Rattle.tenant_core.specs.tenant_state.proofs.Leaving.{fresh_is_state}
use Rattle.tenant_core.specs.tenant_state.specs.State.{TenantState, fresh}
use Rattle.tenant_core.specs.tenant_state.specs.Valid.{IsState}

pub states_are : (t : List ℕ) (s : TenantState) → Some s ≡ state_of t → IsState s
states_are t s is = at (begins_with 98 t) is
  where
    at : (b : Bool) → Some s ≡ (if b then Some fresh else None) → IsState s
    at true is = let same : fresh ≡ s = cc in subst IsState same fresh_is_state
    at false is = cc
