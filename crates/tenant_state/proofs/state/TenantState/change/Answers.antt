use Rattle.std.proofs.Common.{◌≡◌, ◌∙◌, ◌+◌, length, None, string_bytes, ap, sym, subst, arith}
use Rattle.tenant_state.proofs.Counting.{grown}
use Rattle.tenant_state.proofs.Leaving.{left_is, state_stays}
use Rattle.tenant_state.specs.Receipts.{receipt_of, with_receipt}
use Rattle.tenant_state.specs.State.{after, inventory_after, with_receipts}
use Rattle.tenant_state.specs.Valid.{IsChange, IsState}
use Rattle.tenant_state.proofs.state.TenantState.change.Goals as goal

number_is : (c : goal.After-drop-self-inside) → string_bytes c.in_ok-number.number ≡ c.args.change.now.number
number_is c = c.in_ok-number.ensures.ok ∙ (c.as_str.ensures ∙ ap (λ x. x.number) c.change.view_is)

-- the parts are those of the state after the change
left : (c : goal.After-drop-self-inside) → with_receipts c.in_ok-inventory.inventory.value c.insert.new.self ≡ after c.args.change.now c.args.self.now
left c =
    left_is c.args.change.now c.args.self.now c.self.inside.inventory.value c.in_ok-inventory.inventory.value c.self.inside.receipts c.insert.new.self c.self.view_is
    (c.in_ok-inventory.ensures.ok ∙ (c.in_ok-after.ensures ∙ ap (inventory_after c.args.change.now) c.deref.ensures))
    (c.in_ok-insert.ensures.ok
    ∙ (ap (λ n. with_receipt n c.in_ok-receipt.receipt.value c.self.inside.receipts) (number_is c)
    ∙ ap (λ r. with_receipt c.args.change.now.number r c.self.inside.receipts) (c.in_ok-receipt.ensures.cases ∙ ap (λ x. x.receipt) c.change.view_is)))

is_state : (c : goal.After-drop-self-inside) → IsState (with_receipts c.in_ok-inventory.inventory.value c.insert.new.self)
is_state c =
    subst IsState (sym (left c))
    (state_stays c.args.change.now c.args.self.now (subst IsChange c.change.view_is c.change.invariant) c.requires (subst IsState c.self.view_is c.self.invariant.state))

-- a receipt under a new number adds one to the number of receipts
pub invariant_of-self-2 : goal.invariant_of-self-2
invariant_of-self-2 c =
    let next : c.in_ok-inventory.inventory.value.epoch ≡ c.deref.result.now.epoch + 1 =
    ap (λ i. i.epoch) (c.in_ok-inventory.ensures.ok ∙ c.in_ok-after.ensures) in
    let new : receipt_of (string_bytes c.in_ok-number.number) c.self.inside.receipts ≡ None =
    ap (λ n. receipt_of n c.self.inside.receipts) (number_is c) ∙ (ap (λ s. receipt_of c.args.change.now.number s.receipts) c.self.view_is ∙ c.requires.new) in
    let more = ap length c.in_ok-insert.ensures.ok ∙ grown (string_bytes c.in_ok-number.number) c.in_ok-receipt.receipt.value c.self.inside.receipts new in
    record { epoch = omega (arith, next, ap (λ i. i.epoch) c.deref.ensures, more, c.self.invariant.epoch); state = is_state c }

pub returns-clause-valid : goal.returns-clause-valid
returns-clause-valid c = is_state c
