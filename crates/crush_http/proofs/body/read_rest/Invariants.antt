use Rattle.std.proofs.Common.{◌≡◌, ◌-◌, ◌≤◌, length, take, drop}
use Rattle.std.specs.Io.KnownBytes.{Consumes}
use Rattle.crush_http.proofs.body.read_rest.Given as goal

-- what was read follows the start
abbrev pub invariant-loop-filled : goal.invariant-loop-filled
invariant-loop-filled g l = record {
  size : length l.body ≡ length l.fn.body;
  within : (l.start ≤ l.filled) × (l.filled ≤ length l.body);
  front : take l.start l.body ≡ take l.start l.fn.body;
  taken : Consumes (g.R.Read.remaining l.fn.reader) (g.R.Read.remaining l.reader) (drop l.start (take l.filled l.body));
}

abbrev pub decreases-loop-filled : goal.decreases-loop-filled
decreases-loop-filled g l = length l.body - l.filled
