use Rattle.std.proofs.Common.{◌≡◌, length, get_or, true≢false, sym, ap, ◌∙◌, arith}
use Rattle.std.specs.Fmt.{digits}
use Rattle.table_schema.proofs.Elements.{of_6}
use Rattle.table_schema.proofs.first.are_first_indexes.Goals as goal

pub returns-then-not-is_automatic : goal.returns-then-not-is_automatic
unfolding digits
returns-then-not-is_automatic c = (
  λ no. absurd (true≢false (sym no)),
  λ is. absurd (true≢false (sym (c.is_automatic.ensures.1 (c.tenants-item.is ∙ ap (λ l. get_or l 0 c.tenants-item.result) is)) ∙ c.if-not-is_automatic.true)),
)

pub returns-then-not-is_automatic-5 : goal.returns-then-not-is_automatic-5
unfolding digits
returns-then-not-is_automatic-5 c = (
  λ no. absurd (true≢false (sym no)),
  λ is. absurd (true≢false (sym (c.is_automatic-in-len6-4.ensures.1 (c.names-item.is ∙ ap (λ l. get_or l 4 c.names-item.result) is)) ∙ c.if-not-is_automatic-5.true)),
)

pub returns-else-not-is_automatic-5 : goal.returns-else-not-is_automatic-5
unfolding digits
returns-else-not-is_automatic-5 c = (
  λ last.
      let xs = c.args.indexes.now in
      let long : length xs ≡ 6 = omega arith in
      of_6 xs c.tenants-item.result c.maps-item.result c.devices-item.result c.pools-item.result c.names-item.result c.receipts-item.result _ _ _ _ _ _ long
      c.tenants-item.is (c.is_automatic.ensures.0 c.if-not-is_automatic.false)
      c.maps-item.is (c.is_automatic-in-len6.ensures.0 c.if-not-is_automatic-2.false)
      c.devices-item.is (c.is_automatic-in-len6-2.ensures.0 c.if-not-is_automatic-3.false)
      c.pools-item.is (c.is_automatic-in-len6-3.ensures.0 c.if-not-is_automatic-4.false)
      c.names-item.is (c.is_automatic-in-len6-4.ensures.0 c.if-not-is_automatic-5.false)
      c.receipts-item.is (c.is_automatic-in-len6-5.ensures.0 last),
  λ is. c.is_automatic-in-len6-5.ensures.1 (c.receipts-item.is ∙ ap (λ l. get_or l 5 c.receipts-item.result) is),
)
