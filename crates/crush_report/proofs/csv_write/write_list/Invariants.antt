use Rattle.std.proofs.Common.{◌≡◌, ◌++◌, ◌∷◌, take, flat_map}
use Rattle.crush_report.specs.Csv.{slot_text}
use Rattle.crush_report.proofs.csv_write.write_list.Given as goal

-- the first item, and those so far, each after a space
abbrev pub invariant-loop-slot : goal.invariant-loop-slot
invariant-loop-slot l = l.out.items ≡ l.initial.out.items ++ flat_map (λ s. 32 ∷ slot_text s) (take l.slot-index l.others)
