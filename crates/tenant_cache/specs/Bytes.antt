-- The bytes that the kept entries take.
use Rattle.std.specs.Prelude.{ℕ, List, Option, option_map, String}
use Rattle.std.specs.declared.alloc.Global.{Global}
use Rattle.std.specs.List.{sum_by}
use Rattle.std.specs.Map.{values_of}
use Rattle.std.specs.declared.rc.Rc.{Rc}
use Rattle.std.specs.Option.{unwrap_or}
use Rattle.tenant_state.specs.Size.{size}
use Rattle.tenant_cache.specs.Kept.{ReadyTenant}

-- the pairs of a name and what the tenant has, in the code's type
abbrev pub Entries : Type 0
Entries = List (String Global × Rc ReadyTenant Global)

abbrev pub bytes_in : Entries → ℕ
bytes_in entries = sum_by (λ r. size r.value.inventory) (values_of entries)

-- the bytes of an entry, or 0 if there is none
abbrev pub bytes_of : Option (String Global × Rc ReadyTenant Global) → ℕ
bytes_of entry = unwrap_or (option_map (λ e. size e.1.value.inventory) entry) 0
