-- The result of running a rule.
use Rattle.std.specs.Prelude.{ℕ, List}
use Rattle.crush_choose.specs.Marks.{Slot}

-- the answer and the trace
pub record OutView : Type 0 where
  pub items : List Slot
  pub trace : List ℕ
