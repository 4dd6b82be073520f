use Rattle.std.proofs.Common.{◌≡◌, length, get_or, ap, ◌∙◌, arith}
use Rattle.table_schema.proofs.Elements.{of_8}
use Rattle.table_schema.proofs.schema.are_tables.Goals as goal

pub returns-else-not-is_pools : goal.returns-else-not-is_pools
returns-else-not-is_pools c = (
  λ last.
      let xs = c.args.tables.now in
      let long : length xs ≡ 8 = omega arith in
      of_8 xs c.info-item.result c.tenants-item.result c.counts-item.result c.maps-item.result c.devices-item.result c.receipts-item.result c.pools-item.result c.exceptions-item.result _ _ _ _ _ _ _ _ long
      c.info-item.is (c.is_info.ensures.0 c.if-not-is_info.false)
      c.tenants-item.is (c.is_tenants.ensures.0 c.if-not-is_tenants.false)
      c.counts-item.is (c.are_counts.ensures.0 c.if-not-are_counts.false)
      c.maps-item.is (c.is_maps.ensures.0 c.if-not-is_maps.false)
      c.devices-item.is (c.is_devices.ensures.0 c.if-not-is_devices.false)
      c.receipts-item.is (rw c.receipts_tree.ensures.tree at (c.is_receipts.ensures.0 c.if-not-is_receipts.false))
      c.pools-item.is (rw c.pools_tree.ensures.tree at (c.is_pools.ensures.0 c.if-not-is_pools.false))
      c.exceptions-item.is (rw c.exceptions_tree.ensures.tree at (c.are_exceptions.ensures.0 last)),
  λ is. (rw c.exceptions_tree.ensures.tree at c.are_exceptions.ensures.1) (c.exceptions-item.is ∙ ap (λ l. get_or l 7 c.exceptions-item.result) is),
)
