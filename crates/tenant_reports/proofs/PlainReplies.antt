-- The bodies of reports have no number with a point or an exponent.
use Rattle.std.proofs.Common.{◌≡◌, ℕ, List, false, refl}
use Rattle.serde_json.specs.Written.{has_float}
use Rattle.tenant_messages.proofs.PlainSlots.{ids_plain}
use Rattle.tenant_reports.specs.Impact.{impact_reply}
use Rattle.tenant_state.specs.State.{Inventory}

pub impact_plain : (inventory : Inventory) (id device : ℕ) (groups : List ℕ) → has_float (impact_reply inventory id device groups) ≡ false
impact_plain inventory id device groups = rw (ids_plain groups) refl
