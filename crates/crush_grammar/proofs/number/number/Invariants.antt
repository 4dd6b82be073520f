use Rattle.std.proofs.Common.{◌≡◌, ◌<◌, ◌^◌, drop, true}
use Rattle.std.specs.List.{list_all}
use Rattle.crush_grammar.specs.Numbers as spec
use Rattle.crush_grammar.proofs.number.number.Given as goal

abbrev pub invariant-loop-byte : goal.invariant-loop-byte
invariant-loop-byte l = record {
  value : spec.number_from l.number (drop l.byte-index l.text) ≡ spec.number_from 0 l.text;
  digits : list_all spec.is_digit (drop l.byte-index l.text) ≡ true;
  bound : l.number < 10 ^ l.byte-index;
}
