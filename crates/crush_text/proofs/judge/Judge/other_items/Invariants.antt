use Rattle.std.proofs.Common.{◌≡◌, take, map, filter, is_none}
use Rattle.crush_text.specs.Judging.{item_of}
use Rattle.crush_text.proofs.judge.Judge.other_items.Given as goal

abbrev pub invariant-loop-item : goal.invariant-loop-item
invariant-loop-item l = l.others.items ≡ map (item_of l.self.draft) (filter (λ item. is_none item.place) (take l.item-index l.items))
