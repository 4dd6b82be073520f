-- A numbered call that is repeated acts once.
use Rattle.std.proofs.Common.{◌≡◌, ◌≢◌, ◌⊎◌, inl, inr, ◌<◌, ◌≤◌, ◌==◌, ℕ, zero, suc, List, [], ◌∷◌, Bool, true, false, slice_get, Option, Some, None, IsSome, refl, sym, ap, subst, ◌∙◌, arith}
use Rattle.std.proofs.lemmas.Bool.{cases_Bool, eqb-true, eqb-false}
use Rattle.std.specs.List.{AllZip}
use Rattle.tenant_core.specs.Alone.{alone}
use Rattle.tenant_service.specs.History.{Kept, calls_of, IsReplyTo}
use Rattle.tenant_service.specs.Repeats.{ActsOnce, Exists, IsAccepted, number_of, state_before}
use Rattle.tenant_service.proofs.Receipted.{HasReceipt, accepted, changes_nothing, same_again, stays}
use Rattle.tenant_core.specs.Step.{step}
use Rattle.tenant_core.specs.tenant_messages.specs.declared.call.Call.{Call}
use Rattle.tenant_core.specs.tenant_messages.specs.declared.reply.Reply.{Reply}
use Rattle.tenant_core.specs.tenant_state.specs.State.{TenantState}

-- ---- places of a list

state_next : (s : Option TenantState) (kept : List Kept) (k : ℕ) (e : Kept) → slice_get kept k ≡ Some e → state_before s kept (suc k) ≡ (step e.call (state_before s kept k)).state
state_next s [] k e h = cc
state_next s (x ∷ xs) zero e h = let same : x ≡ e = cc in ap (λ (y : Kept). (step y.call s).state) same
state_next s (x ∷ xs) (suc k) e h = state_next (step x.call s).state xs k e h

earlier : (kept : List Kept) (j k : ℕ) (e : Kept) → slice_get kept j ≡ Some e → k ≤ j → (d : Kept) × (slice_get kept k ≡ Some d)
earlier [] j k e h le = cc
earlier (x ∷ xs) j zero e h le = (x, refl)
earlier (x ∷ xs) zero (suc k) e h le = absurd (omega arith)
earlier (x ∷ xs) (suc j) (suc k) e h le = earlier xs j k e h (omega arith)

-- the acknowledgement at a place is the definition's reply there
reply_at : (s : Option TenantState) (kept : List Kept) (k : ℕ) (e : Kept) (r : Reply) → AllZip IsReplyTo kept (alone s (calls_of kept)).replies → slice_get kept k ≡ Some e → e.reply ≡ Some r
    → r ≡ (step e.call (state_before s kept k)).reply
reply_at s [] k e r all h is = cc
reply_at s (x ∷ xs) zero e r all h is =
    let same : x ≡ e = cc in
    all.0 r (ap (λ (y : Kept). y.reply) same ∙ is) ∙ ap (λ (y : Kept). (step y.call s).reply) same
reply_at s (x ∷ xs) (suc k) e r all h is = reply_at (step x.call s).state xs k e r all.1 h is

some_of : (o : Option TenantState) → IsSome o → (s : TenantState) × (o ≡ Some s)
some_of None h = cc
some_of (Some s) h = (s, refl)

-- ---- the receipt

module _ (start : Option TenantState) (kept : List Kept) where
  -- the state at a place has the receipt of the call
  Has : List ℕ → Call → Reply → ℕ → Type 0
  Has n c r k = (s : TenantState) × (state_before start kept k ≡ Some s) × HasReceipt s n c r

  left : (i : ℕ) (n : List ℕ) (e : Kept) → slice_get kept i ≡ Some e → number_of e.call ≡ Some n → IsAccepted start kept i → Has n e.call (step e.call (state_before start kept i)).reply (suc i)
  unfolding Has
  left i n e at numbered changes =
      elim (accepted e.call n (state_before start kept i) numbered) [
        | inl same ↦ absurd (changes (state_next start kept i e at ∙ same))
        | inr made ↦ (made.0, state_next start kept i e at ∙ made.1, made.2)
      ]

  lasts : (i j : ℕ) (n : List ℕ) (c : Call) (r : Reply) (e : Kept) → slice_get kept j ≡ Some e → Has n c r (suc i) → Exists start kept i j → (k : ℕ) → i < k → k ≤ j → Has n c r k
  unfolding Has
  lasts i j n c r e at first exists zero lt le = absurd (omega arith)
  lasts i j n c r e at first exists (suc k) lt le =
      elim (cases_Bool (i == k)) [
        | inl same ↦ subst (λ m. Has n c r (suc m)) (eqb-true i k same) first
        | inr apart ↦
            let other = eqb-false i k apart in
            let before = lasts i j n c r e at first exists k (omega (arith, other)) (omega arith) in
            let call = earlier kept j k e at (omega arith) in
            let now = some_of (state_before start kept (suc k)) (exists (suc k) lt le) in
            let is : (step call.0.call (Some before.0)).state ≡ Some now.0 =
            ap (λ s. (step call.0.call s).state) (sym before.1) ∙ sym (state_next start kept k call.0 call.1) ∙ now.1 in
            (now.0, now.1, stays call.0.call c n before.0 now.0 r before.2 is)
      ]

  pub acts_once : AllZip IsReplyTo kept (alone start (calls_of kept)).replies → ActsOnce start kept
  unfolding Has
  acts_once replies = record {
    once = λ i j n first second h.
        let there = lasts i j n first.call _ second h.at_second (left i n first h.at_first h.numbered h.accepted) h.exists j h.later (omega arith) in
        state_next start kept j second h.at_second
        ∙ ap (λ s. (step second.call s).state) there.1
        ∙ changes_nothing second.call n there.0 there.2.receipt h.same there.2.found
        ∙ sym there.1;
    reply = λ i j n first second r h same is.
        let there = lasts i j n first.call _ second h.at_second (left i n first h.at_first h.numbered h.accepted) h.exists j h.later (omega arith) in
        reply_at start kept j second r replies h.at_second is
        ∙ ap (λ s. (step second.call s).reply) there.1
        ∙ same_again second.call first.call n there.0 _ h.same there.2 same;
  }
