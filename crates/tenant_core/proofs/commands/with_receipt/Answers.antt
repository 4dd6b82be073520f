use Rattle.std.proofs.Common.{◌≡◌, ap, ◌∙◌}
use Rattle.std.proofs.lemmas.Str.{is_utf8-from_IsUtf8}
use Rattle.std.specs.Str.{is_utf8}
use Rattle.tenant_core.proofs.Accepting.{same_change, same_receipt}
use Rattle.tenant_core.proofs.StatesLeft.{receipt_is}
use Rattle.tenant_messages.specs.Numbers.{has_length}
use Rattle.tenant_messages.specs.Reply.{reply}
use Rattle.tenant_messages.specs.declared.reply.Reply.{Reply}
use Rattle.tenant_state.specs.declared.receipts.Receipt.{Receipt}
use Rattle.tenant_core.proofs.commands.with_receipt.Goals as goal

pub returns-clause-effect : goal.returns-clause-effect
unfolding reply
returns-clause-effect c =
    rw (← c.command.view_is) (same_change _ _ _ _ _ (c.in_ok-copy-4.ensures ∙ c.as_str-2.ensures)
    (c.in_ok-new.ensures.ok
    ∙ same_receipt _ _ _ _ _ _ _ c.in_ok-copy.ensures c.in_ok-copy-2.ensures
    (c.in_ok-copy-3.ensures ∙ (c.as_str.ensures ∙ ap (λ (r : Reply). r.body) c.in_ok-reply.ensures))))

-- the number has its length, and the texts are UTF-8
pub invariant_of-change : goal.invariant_of-change
invariant_of-change c =
    let number : c.in_ok-copy-4.field-0 ≡ c.command.inside.number = c.in_ok-copy-4.ensures ∙ c.as_str-2.ensures in
    let kept = c.in_ok-new.ensures.ok in record {
      made = c.requires.made;
      receipt = receipt_is c.in_ok-copy-4.field-0 c.in_ok-new.field-0.value (ap has_length number ∙ c.command.invariant.number) (ap is_utf8 number ∙ c.command.invariant.number_text)
          (ap (λ (r : Receipt). is_utf8 r.path) kept ∙ (ap is_utf8 c.in_ok-copy.ensures ∙ c.command.invariant.path_text))
          (ap (λ (r : Receipt). is_utf8 r.body) kept ∙ (ap is_utf8 c.in_ok-copy-2.ensures ∙ c.command.invariant.body_text))
          (ap (λ (r : Receipt). is_utf8 r.reply) kept ∙ (ap is_utf8 c.in_ok-copy-3.ensures ∙ is_utf8-from_IsUtf8 c.as_str.result.now c.as_str.utf8));
    }
