use Rattle.std.proofs.Common.{refl}
use Rattle.crush_map.proofs.Valid.{is_map}
use Rattle.crush_map.proofs.map.CrushMap.of.Goals as goal

pub invariant_of-result : goal.invariant_of-result
invariant_of-result c =
    is_map c.args.draft (record { types = c.in_order_of_number.result.items; devices = c.in_order_of_id.result.items; buckets = c.into_vec-3.result.items; rules = c.rules_in_order.result.items; tunables = c.args.draft.tunables })
    (record {
      types = rw c.into_vec.ensures at c.in_order_of_number.ensures.same;
      devices = rw c.into_vec-2.ensures at c.in_order_of_id.ensures.same;
      buckets = c.into_vec-3.ensures;
      rules = rw c.into_vec-4.ensures at c.rules_in_order.ensures.same;
      tunables = refl;
    })
    c.in_order_of_number.ensures.order c.in_order_of_id.ensures.order c.rules_in_order.ensures.order c.requires

pub returns-clause-valid : goal.returns-clause-valid
returns-clause-valid c =
    is_map c.args.draft (record { types = c.in_order_of_number.result.items; devices = c.in_order_of_id.result.items; buckets = c.into_vec-3.result.items; rules = c.rules_in_order.result.items; tunables = c.args.draft.tunables })
    (record {
      types = rw c.into_vec.ensures at c.in_order_of_number.ensures.same;
      devices = rw c.into_vec-2.ensures at c.in_order_of_id.ensures.same;
      buckets = c.into_vec-3.ensures;
      rules = rw c.into_vec-4.ensures at c.rules_in_order.ensures.same;
      tunables = refl;
    })
    c.in_order_of_number.ensures.order c.in_order_of_id.ensures.order c.rules_in_order.ensures.order c.requires
