use Rattle.std.specs.BTreeMap.{get_by_text}
use Rattle.crush_text.specs.Judging.{of_bucket}
use Rattle.crush_text.proofs.FirstOfName.{one_more}
use Rattle.crush_text.proofs.tables.BucketTable.add.Goals as goal

pub invariant_of-self-2 : goal.invariant_of-self-2
invariant_of-self-2 c = λ name.
    rw (c.in_ok-add_first.ensures.ok name, c.as_str.ensures, c.bucket_item-item.ensures, c.push_reserved.ensures.items, c.reserve.ensures.items) (one_more (λ x. x.name) of_bucket c.self.inside.order.items c.args.declared (get_by_text c.self.inside.index) c.self.invariant name)

pub invariant_of-self-in_err-add_first : goal.invariant_of-self-in_err-add_first
invariant_of-self-in_err-add_first c = λ name. rw (c.in_err-add_first.ensures.err name, c.reserve.ensures.items) (c.self.invariant name)
