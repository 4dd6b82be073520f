-- The names of a store of the tests.
use Rattle.std.specs.Prelude.{ℕ, ◌==◌, List, [], ◌∷◌, Bool, false, if◌then◌else◌, Option, Some, None}
use Rattle.tenant_core.specs.tenant_state.specs.State.{TenantState, fresh}

-- whether a name begins with a byte
abbrev pub begins_with : ℕ → List ℕ → Bool
begins_with byte [] = false
begins_with byte (b ∷ name) = b == byte

-- each name that begins with b is a tenant that was just created; others are absent
abbrev pub state_of : List ℕ → Option TenantState
state_of name = if begins_with 98 name then Some fresh else None
