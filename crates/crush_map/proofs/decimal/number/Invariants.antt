use Rattle.std.proofs.Common.{◌≡◌, ◌<◌, ◌^◌, take}
use Rattle.crush_map.specs.WeightText as spec
use Rattle.crush_map.proofs.decimal.number.Given as goal

abbrev pub invariant-loop-digit : goal.invariant-loop-digit
invariant-loop-digit l = record {
  value : l.number ≡ spec.number (take l.digit-index l.digits);
  bound : l.number < 10 ^ l.digit-index;
}
