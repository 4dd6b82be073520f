use Rattle.std.proofs.Common.{◌≡◌, Some, inl, inr, subst, sym, ◌∙◌}
use Rattle.tenant_cache.specs.Kept.{ReadyTenant}
use Rattle.tenant_cache.specs.Ready.{IsWithNumber}
use Rattle.tenant_cache.proofs.placing.keep_number.Goals as goal

some_is : (r s : ReadyTenant) → Some r ≡ Some s → r ≡ s
some_is r s is = cc

-- the entry that was put is the same, with the number
pub returns : goal.returns
returns g c u r at = elim (c.put.ensures.only u r at) [
  | inl mine ↦
      let same : c.in-Ok.next ≡ r = sym c.in-Ok-new.ensures.ok ∙ some_is c.in-Ok-new.next.value r mine.1 in
      inr (
        mine.0 ∙ c.in-Ok-from_str.ensures.ok,
        subst (IsWithNumber c.args.ready.now c.args.pool.now.parts.id c.args.number) same (subst (λ id. IsWithNumber c.args.ready.now id c.args.number c.in-Ok.next) c.id.ensures c.in-Ok.ensures),
      )
  | inr others ↦ inl others.1
]
