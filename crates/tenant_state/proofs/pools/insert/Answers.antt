use Rattle.std.proofs.Common.{◌≡◌, ◌<◌, nat_le, length, map, sym, ap, ◌∙◌, arith}
use Rattle.std.specs.List.{position_or_len}
use Rattle.tenant_state.proofs.Ordering.{place-few, inserted, replaced}
use Rattle.tenant_state.proofs.pools.insert.Goals as goal
use Rattle.tenant_state.proofs.pools.insert.Goals.{else-place-len-via-then-place-len+else-id, else-place-len-via-else-place-len}

pub insert-requires : goal.insert-requires
insert-requires c =
    let few = place-few (λ p. nat_le c.id-id.result p.value.parts.id) c.deref-2.result.now in
    let is = c.place_of-place.ensures in let len = c.deref-2.ensures.len in omega (arith, few, is, len)

pub returns-then-id : goal.returns-then-id
returns-then-id c =
    let own : c.id-id.result ≡ c.args.new.value.parts.id = c.id-id.ensures ∙ ap (λ p. p.parts.id) c.deref.ensures in
    let is = c.place_of-place.ensures in let value = c.deref-2.ensures.value in let len = c.deref-2.ensures.len in
    let at : c.place_of-place.result ≡ position_or_len (λ p. nat_le c.args.new.value.parts.id p.value.parts.id) c.args.pools.now.items = rw (← value, ← own) is in
    let within : c.place_of-place.result < length c.args.pools.now.items =
    (let lower = c.if-place-len.true in let counted = c.len.ensures in let long : length c.deref-2.result.now ≡ length c.args.pools.now.items = ap length value in omega (arith, lower, counted, len, long)) in
    replaced (λ p. p.value) (λ p. p.parts.id) c.args.new c.index.result.now c.place_of-place.result c.args.pools.now.items at within
    (ap (λ p. p.value.parts.id) (sym c.index.ensures) ∙ (sym (c.id.ensures ∙ ap (λ p. p.parts.id) c.deref-then-place-len.ensures) ∙ (c.if-id.true ∙ own)))

pub returns-in_ok-insert : goal.returns-in_ok-insert
returns-in_ok-insert c =
    let own : c.id-id.result ≡ c.args.new.value.parts.id = c.id-id.ensures ∙ ap (λ p. p.parts.id) c.deref.ensures in
    let is = c.place_of-place.ensures in let value = c.deref-2.ensures.value in let len = c.deref-2.ensures.len in let counted = c.len.ensures in
    let long : length c.deref-2.result.now ≡ length c.args.pools.now.items = ap length value in
    let at : c.place_of-place.result ≡ position_or_len (λ p. nat_le c.args.new.value.parts.id p.value.parts.id) c.args.pools.now.items = rw (← value, ← own) is in
    ap (map (λ p. p.value)) c.in_ok-insert.ensures.items
    ∙ elim c.else-place-len.branch [
      | else-place-len-via-then-place-len+else-id w ↦ inserted (λ p. p.value) (λ p. p.parts.id) c.args.new w.index.result.now c.place_of-place.result c.args.pools.now.items at
          (λ _ same. w.if-id.false (w.id.ensures ∙ (ap (λ p. p.parts.id) w.deref-then-place-len.ensures ∙ (ap (λ p. p.value.parts.id) w.index.ensures ∙ (same ∙ sym own)))))
      | else-place-len-via-else-place-len w ↦ inserted (λ p. p.value) (λ p. p.parts.id) c.args.new c.args.new c.place_of-place.result c.args.pools.now.items at
          (λ lower _. let past = w.if-place-len.false in absurd (omega (arith, lower, past, counted, len, long)))
    ]
