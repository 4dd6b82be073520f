use Rattle.std.proofs.Common.{◌≡◌, ◌++◌, drop}
use Rattle.crush_text.specs.Private.Tables.{arrange}
use Rattle.crush_text.proofs.places.arranged.Given as goal

abbrev pub invariant-loop-place : goal.invariant-loop-place
invariant-loop-place l = l.items.items ++ arrange (drop l.place-index l.places) l.others ≡ arrange l.places l.fn.others
