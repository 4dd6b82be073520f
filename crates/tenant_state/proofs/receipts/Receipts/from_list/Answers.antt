use Rattle.tenant_state.proofs.Keeping.{moved_last}
use Rattle.tenant_state.proofs.receipts.Receipts.from_list.Goals as goal

pub loop-number-preserved-in_ok-insert : goal.loop-number-preserved-in_ok-insert
loop-number-preserved-in_ok-insert c = record {
  whole =
      moved_last c.loop-number.rest.items c.pop.new.self.items c.in-Some.number c.in-Some.receipt c.loop-number.by_number.entries c.insert.new.self.entries c.args.receipts.items
      c.in-Some.ensures.items c.in_ok-insert.ensures.entries c.loop-number.invariant.whole c.loop-number.invariant.ordered;
  ordered = c.loop-number.invariant.ordered;
}

pub loop-number-preserved : goal.loop-number-preserved
loop-number-preserved c = record {
  whole =
      moved_last c.loop-number.rest.items c.pop.new.self.items c.in-Some.number c.in-Some.receipt c.loop-number.by_number.entries c.insert.new.self.entries c.args.receipts.items
      c.in-Some.ensures.items c.in_ok-insert.ensures.entries c.loop-number.invariant.whole c.loop-number.invariant.ordered;
  ordered = c.loop-number.invariant.ordered;
}
