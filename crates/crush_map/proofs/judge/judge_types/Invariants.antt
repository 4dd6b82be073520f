use Rattle.std.proofs.Common.{◌≡◌, take, drop, fold}
use Rattle.crush_map.specs.declared.fault.Element.TheVariants.{Types}
use Rattle.crush_map.specs.Faults.{first_in, type_fault, with_type}
use Rattle.crush_map.proofs.judge.judge_types.Given as goal

abbrev pub invariant-loop-index : goal.invariant-loop-index
invariant-loop-index l = record {
  fault : first_in Types type_fault with_type l.index l.known (drop l.index l.types) ≡ first_in Types type_fault with_type 0 l.fn.known l.types;
  known : l.known ≡ fold with_type l.fn.known (take l.index l.types);
}
