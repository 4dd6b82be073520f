use mir.Val.{SFits}
use mir.Syntax.{w64}
use Rattle.std.proofs.Common.{◌≡◌, ℤ, pos, true, Option, Some, None, rules, length, refl, sym, ap, ◌∙◌, arith}
use Rattle.std.specs.Option.{IfSome, is_some}
use Rattle.std.proofs.lemmas.Int.{to_z-of_z}
use Rattle.tenant_messages.specs.Reply.{success_status}
use Rattle.tenant_messages.specs.declared.reply.SuccessStatus.{SuccessStatus}
use Rattle.tenant_tables.proofs.Pages.{is_of_receipt, status_of}
use Rattle.tenant_tables.proofs.parts.is_receipt_row.Goals as goal

status_in : (o : Option SuccessStatus) (n : ℤ) → IfSome o (λ s. n ≡ pos (success_status s)) → is_some o ≡ true → (s : SuccessStatus) × (n ≡ pos (success_status s))
status_in None n says some = cc
status_in (Some s) n says some = (s, says)

is_there : (o : Option SuccessStatus) → (o ≡ None → ⊥) → is_some o ≡ true
is_there None none = absurd (none refl)
is_there (Some s) none = refl

pub returns-in-1-to-64 : goal.returns-in-1-to-64
returns-in-1-to-64 c =
    let fits : SFits w64 c.args.row.now.status = search rules in
    let number = to_z-of_z w64 c.args.row.now.status fits in
    let long = ap length c.as_str.ensures.value in (
      λ some.
          let s = status_in c.status.result _ c.status.ensures.some (sym c.is_some.ensures ∙ some) in
          is_of_receipt c.args.row.now s.0 (omega (arith, long)) (omega (arith, long)) (sym number ∙ s.1),
      λ one.
          let s = status_of c.args.row.now one in
          c.is_some.ensures ∙ is_there c.status.result (λ none. c.status.ensures.none none s.0 (number ∙ s.1)),
    )
