use Rattle.std.proofs.Common.{◌≡◌, take, drop}
use Rattle.crush_text.specs.Judging.{fault_from, declared_from}
use Rattle.crush_text.proofs.judge.Judge.declare_all.Given as goal

abbrev pub invariant-loop-declaration : goal.invariant-loop-declaration
invariant-loop-declaration l = record {
  fault : fault_from l.self (drop l.declaration-index l.declarations) ≡ fault_from l.fn.self l.declarations;
  declared : l.self ≡ declared_from l.fn.self (take l.declaration-index l.declarations);
}
