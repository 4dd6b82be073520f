use Rattle.std.proofs.Common.{◌≡◌, ◌∙◌, IfOk, ap, subst, sym}
use Rattle.tenant_messages.specs.Reply.{reply, success}
use Rattle.tenant_reports.specs.Moves.{moves_reply}
use Rattle.tenant_resources.specs.Groups.{group_reply, object_reply}
use Rattle.tenant_core.specs.Cached.{cached_reply}
use Rattle.tenant_core.proofs.cached.answer_cached.Goals as goal

pub returns-in-Placed : goal.returns-in-Placed
returns-in-Placed c =
    let it = c.in-Placed in
    let i = c.args.inventory.now in
    subst (λ a. IfOk c.placed_group.result (λ r. r ≡ reply a))
    (ap (λ p. success (group_reply i it.group p)) c.deref.ensures ∙ sym (ap (λ k. success (cached_reply i k)) it.is)) c.placed_group.ensures

pub returns-in-Located : goal.returns-in-Located
returns-in-Located c =
    let it = c.in-Located in
    let i = c.args.inventory.now in
    subst (λ a. IfOk c.placed_object.result (λ r. r ≡ reply a))
    (ap (λ p. success (object_reply it.name.now i it.group p)) c.deref-in-Located.ensures ∙ sym (ap (λ k. success (cached_reply i k)) it.is)) c.placed_object.ensures

pub returns-in-Moved : goal.returns-in-Moved
returns-in-Moved c =
    let it = c.in-Moved in
    let i = c.args.inventory.now in
    subst (λ a. IfOk c.moved_reply.result (λ r. r ≡ reply a))
    (ap (λ rows. success (moves_reply i it.id it.from it.to rows)) c.as_slice-in-Moved.ensures ∙ sym (ap (λ k. success (cached_reply i k)) it.is)) c.moved_reply.ensures
