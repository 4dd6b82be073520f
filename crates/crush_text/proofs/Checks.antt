-- Checks that find nothing.
use Rattle.std.proofs.Common.{◌≡◌, Option, Some, None}
use Rattle.crush_map.specs.Faults.{or_else}
pub use Rattle.crush_map.proofs.Passing.{first_none, second_none, passes, fails, left_false}
pub use Rattle.crush_map.proofs.Checks.{last_of}

pub both_none : {X : Type 0} (x y : Option X) → x ≡ None → y ≡ None → or_else x y ≡ None
both_none None y h k = k
both_none (Some x) y h k = cc
