use Rattle.std.proofs.Common.{true≢false, refl, sym, subst₂, ◌∙◌, arith}
use Rattle.sqlite_keyed.proofs.ListLemmas.{ascending-map, ascending_from_map}
use Rattle.table_schema.proofs.Rising.{near, from_neighbours}
use Rattle.table_schema.proofs.read.rise.Goals as goal

pub returns-then-not-is_below : goal.returns-then-not-is_below
returns-then-not-is_below g c = (
  λ no. absurd (true≢false (sym no)),
  λ up.
      let it = g.T.TenantRow in
      let xs = c.args.list.now in
      let less = near (λ a b. it.before (it.values a) (it.values b)) xs (ascending_from_map it.before it.values xs up) c.loop-place.place c.index-list-place.result c.index-list-place-in-loop-place.result (omega arith) (omega arith) in
      let below = subst₂ (λ a b. it.before (it.values a) (it.values b)) (sym c.index-list-place.is) (sym c.index-list-place-in-loop-place.is) less in
      absurd (true≢false (sym (c.is_below.ensures.1 below) ∙ c.if-not-is_below.true)),
)

pub returns : goal.returns
returns g c = (
  λ _.
      let it = g.T.TenantRow in
      let xs = c.args.list.now in
      ascending-map it.before it.values xs
      (from_neighbours (λ a b. it.before (it.values a) (it.values b)) (λ x y z. g.met.T.TenantRow.then (it.values x) (it.values y) (it.values z)) c.loop-place.place xs (omega arith) c.loop-place.invariant.rises),
  λ _. refl,
)
