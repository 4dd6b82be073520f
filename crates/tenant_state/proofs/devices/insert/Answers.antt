use Rattle.std.proofs.Common.{◌≡◌, ◌<◌, nat_le, length, sym, ap, ◌∙◌, arith}
use Rattle.std.specs.List.{position_or_len}
use Rattle.tenant_state.proofs.Ordering.{place-few, inserted_here, replaced_here}
use Rattle.tenant_state.proofs.devices.insert.Goals as goal
use Rattle.tenant_state.proofs.devices.insert.Goals.{else-place-len-via-then-place-len+else-index-new, else-place-len-via-else-place-len}

pub insert-requires : goal.insert-requires
insert-requires c =
    let few = place-few (λ s. nat_le c.args.new.device s.device) c.deref.result.now in
    let is = c.place_of-place.ensures in let len = c.deref.ensures.len in omega (arith, few, is, len)

pub returns-then-index-new : goal.returns-then-index-new
returns-then-index-new c =
    let is = c.place_of-place.ensures in let value = c.deref.ensures.value in let len = c.deref.ensures.len in
    let at : c.place_of-place.result ≡ position_or_len (λ s. nat_le c.args.new.device s.device) c.args.states.now.items = rw (← value) is in
    let within : c.place_of-place.result < length c.args.states.now.items =
    (let lower = c.if-place-len.true in let counted = c.len.ensures in let long : length c.deref.result.now ≡ length c.args.states.now.items = ap length value in omega (arith, lower, counted, len, long)) in
    replaced_here (λ s. s.device) c.args.new c.index.result.now c.place_of-place.result c.args.states.now.items at within (ap (λ s. s.device) (sym c.index.ensures) ∙ c.if-index-new.true)

pub returns-in_ok-insert : goal.returns-in_ok-insert
returns-in_ok-insert c =
    let is = c.place_of-place.ensures in let value = c.deref.ensures.value in let len = c.deref.ensures.len in let counted = c.len.ensures in
    let long : length c.deref.result.now ≡ length c.args.states.now.items = ap length value in
    let at : c.place_of-place.result ≡ position_or_len (λ s. nat_le c.args.new.device s.device) c.args.states.now.items = rw (← value) is in
    c.in_ok-insert.ensures.items
    ∙ elim c.else-place-len.branch [
      | else-place-len-via-then-place-len+else-index-new w ↦ inserted_here (λ s. s.device) c.args.new w.index.result.now c.place_of-place.result c.args.states.now.items at
          (λ _ same. w.if-index-new.false (ap (λ s. s.device) w.index.ensures ∙ same))
      | else-place-len-via-else-place-len w ↦ inserted_here (λ s. s.device) c.args.new c.args.new c.place_of-place.result c.args.states.now.items at
          (λ lower _. let past = w.if-place-len.false in absurd (omega (arith, lower, past, counted, len, long)))
    ]
