use Rattle.std.proofs.Common.{inl, inr, ℕ, List, [], ◌∷◌, Contains, ap, subst, ◌∙◌}
use Rattle.std.proofs.lemmas.List.Elements.{Contains-append_cases, Contains-get_or}
use Rattle.lru.proofs.Splits.{Contains-cons, Contains-nil}
use Rattle.tenant_cache.specs.Kept.{ReadyTenant}
use Rattle.tenant_cache.proofs.ready.ReadyTenant.with_number.Goals as goal
use Rattle.tenant_cache.proofs.ready.ReadyTenant.with_number.Goals.{then-len-lt-NUMBER_LIMIT+then-id-pool+in_ok-push-2, else-len-lt-NUMBER_LIMIT}

-- the one element of a list is among others
within : (a e : ℕ × ℕ) (xs : List (ℕ × ℕ)) → Contains (a ∷ []) e → Contains xs a → Contains xs e
within a e xs one there = elim (Contains-cons a [] e one) [
  | inl same ↦ subst (Contains xs) same there
  | inr none ↦ absurd (Contains-nil e none)
]

-- each number is the new one, or was there, also after one is copied
pub loop-id-preserved : goal.loop-id-preserved
loop-id-preserved c e here = elim c.if-len-lt-NUMBER_LIMIT.branch [
  | then-len-lt-NUMBER_LIMIT+then-id-pool+in_ok-push-2 w ↦ elim (Contains-append_cases c.loop-id.numbers.items _ e (subst (λ es. Contains es e) (ap (λ v. v.items) w.numbers-is ∙ w.in_ok-push-2.ensures.items) here)) [
    | inl old ↦ c.loop-id.invariant e old
    | inr new ↦ inr (subst (λ es. Contains es e) (c.deref-id-items.ensures.value ∙ ap (λ (r : ReadyTenant). r.numbers) c.self.view_is) (within _ e c.deref-id-items.result.now new (Contains-get_or c.deref-id-items.result.now c.loop-id.id-index _ c.loop-id-test.true)))
  ]
  | else-len-lt-NUMBER_LIMIT w ↦ c.loop-id.invariant e (subst (λ v. Contains v.items e) w.numbers-is here)
]
