use Rattle.std.proofs.Common.{◌≡◌, length, get_or, true≢false, sym, ap, ◌∙◌, arith}
use Rattle.std.specs.Fmt.{digits}
use Rattle.table_schema.proofs.Elements.{of_7}
use Rattle.table_schema.proofs.schema.are_indexes.Goals as goal

pub returns-then-not-is_automatic : goal.returns-then-not-is_automatic
unfolding digits
returns-then-not-is_automatic c = (
  λ no. absurd (true≢false (sym no)),
  λ is. absurd (true≢false (sym (c.is_automatic.ensures.1 (c.tenants-item.is ∙ ap (λ l. get_or l 0 c.tenants-item.result) is)) ∙ c.if-not-is_automatic.true)),
)

pub returns-then-not-is_automatic-6 : goal.returns-then-not-is_automatic-6
unfolding digits
returns-then-not-is_automatic-6 c = (
  λ no. absurd (true≢false (sym no)),
  λ is. absurd (true≢false (sym ((rw c.pools_tree-pools_tree.ensures.tree at c.is_automatic-in-len7-5.ensures.1) (c.names-item.is ∙ ap (λ l. get_or l 5 c.names-item.result) is)) ∙ c.if-not-is_automatic-6.true)),
)

pub returns-else-not-is_automatic-6 : goal.returns-else-not-is_automatic-6
unfolding digits
returns-else-not-is_automatic-6 c = (
  λ last.
      let xs = c.args.indexes.now in
      let long : length xs ≡ 7 = omega arith in
      of_7 xs c.tenants-item.result c.maps-item.result c.devices-item.result c.receipts-item.result c.pools-item.result c.names-item.result c.exceptions-item.result _ _ _ _ _ _ _ long
      c.tenants-item.is (c.is_automatic.ensures.0 c.if-not-is_automatic.false)
      c.maps-item.is (c.is_automatic-in-len7.ensures.0 c.if-not-is_automatic-2.false)
      c.devices-item.is (c.is_automatic-in-len7-2.ensures.0 c.if-not-is_automatic-3.false)
      c.receipts-item.is (rw c.receipts_tree-tree.ensures.tree at (c.is_automatic-in-len7-3.ensures.0 c.if-not-is_automatic-4.false))
      c.pools-item.is (rw c.pools_tree-pools_tree.ensures.tree at (c.is_automatic-in-len7-4.ensures.0 c.if-not-is_automatic-5.false))
      c.names-item.is (rw c.pools_tree-pools_tree.ensures.tree at (c.is_automatic-in-len7-5.ensures.0 c.if-not-is_automatic-6.false))
      c.exceptions-item.is (rw c.exceptions_tree-tree.ensures.tree at (c.is_automatic-in-len7-6.ensures.0 last)),
  λ is. (rw c.exceptions_tree-tree.ensures.tree at c.is_automatic-in-len7-6.ensures.1) (c.exceptions-item.is ∙ ap (λ l. get_or l 6 c.exceptions-item.result) is),
)
