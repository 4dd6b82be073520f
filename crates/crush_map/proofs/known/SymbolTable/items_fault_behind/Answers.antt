use Rattle.std.proofs.Common.{rules, ◌≡◌, ◌∙◌, sym, true, false}
use Rattle.crush_map.specs.Faults.{has_id}
use Rattle.crush_map.proofs.Checks.{items-more}
use Rattle.crush_map.proofs.known.SymbolTable.items_fault_behind.Goals as goal

pub loop-item-preserved : goal.loop-item-preserved
loop-item-preserved c =
    let e = c.in_ok-add.ensures in
    let here : has_id c.args.self.now.items _ ≡ true = search (rules, c.has.ensures.value, c.if-not-has.false) in
    let new : has_id c.loop-item.before _ ≡ false = search (rules, c.has-in-loop-item.ensures.value, c.if-has.false) in
    rw e (sym (items-more c.args.self.now c.loop-item.before c.args.items.now c.loop-item.item-index _ c.loop-item-test.true here new) ∙ c.loop-item.invariant)
