-- What a call does to the receipts of its tenant.
use Rattle.std.proofs.Common.{◌≡◌, ◌∙◌, ◌⊎◌, inl, inr, ℕ, List, Bool, true, false, nat_le, if◌then◌else◌, Option, Some, None, option_map, Result, Ok, Err, refl, sym, ap, subst}
use Rattle.tenant_core.proofs.Once.{accepts, receipt_found, receipt_stays}
use Rattle.tenant_core.specs.Commands as commands
use Rattle.tenant_core.specs.Commands.{Command, again, change_or_refusal, on_receipt, order_on}
use Rattle.tenant_core.specs.Effects.{Decided, after_effect, decided}
use Rattle.tenant_core.specs.Request.{Request, request_of}
use Rattle.tenant_core.specs.Step.{decision_on, decision_or_refusal, step, step_of}
use Rattle.tenant_core.specs.declared.decision.Effect.TheVariants as effect
use Rattle.tenant_core.specs.declared.request.Action.{Action}
use Rattle.tenant_core.specs.declared.request.Action.TheVariants as action
use Rattle.tenant_service.proofs.Reading.{call_from}
use Rattle.tenant_service.specs.Repeats.{AreAlike, command_in, command_asked, command_of, number_of}
use Rattle.tenant_core.specs.tenant_messages.specs.Reply.{refused, repeated, reply}
use Rattle.tenant_core.specs.tenant_messages.specs.declared.call.Call.{Call}
use Rattle.tenant_core.specs.tenant_messages.specs.declared.reply.Problem.{Problem}
use Rattle.tenant_core.specs.tenant_messages.specs.declared.reply.Problem.TheVariants.{TenantLimit}
use Rattle.tenant_core.specs.tenant_messages.specs.declared.reply.Reply.{Reply}
use Rattle.tenant_core.specs.tenant_resources.specs.Orders.{Acceptance}
use Rattle.tenant_core.specs.tenant_state.proofs.Counting.{same_bytes}
use Rattle.tenant_core.specs.tenant_state.specs.Receipts.{receipt_of}
use Rattle.tenant_core.specs.tenant_state.specs.State.{Change, TenantState, after, epoch, inventory_of}
use Rattle.tenant_core.specs.tenant_state.specs.declared.limits.TheConstants.{RECEIPT_LIMIT}
use Rattle.tenant_core.specs.tenant_state.specs.declared.receipts.Receipt.{Receipt}

-- ---- a command leaves the state unchanged, or changes it

Acts : Decided → Type 0
Acts d = (d.effect ≡ effect.Keep) ⊎ ((c : Change) × (d.effect ≡ effect.Change c))

acts_order : (k : Command) (a : Result Acceptance Problem) → Acts (change_or_refusal k a)
unfolding Acts
acts_order k (Ok a) = inr (_, refl)
acts_order k (Err problem) = inl refl

acts_new : (k : Command) (s : TenantState) (full : Bool) → Acts (if full then decided effect.Keep (refused TenantLimit) else change_or_refusal k (order_on k.order (inventory_of s)))
unfolding Acts
acts_new k s true = inl refl
acts_new k s false = acts_order k (order_on k.order (inventory_of s))

acts_on : (k : Command) (s : TenantState) (o : Option Receipt) → Acts (on_receipt k (inventory_of s) o)
unfolding Acts
acts_on k s (Some r) = inl refl
acts_on k s None = acts_new k s (nat_le RECEIPT_LIMIT (epoch s))

acts : (k : Command) (s : TenantState) → Acts (commands.decision k s)
acts k s = acts_on k s (receipt_of k.number s.receipts)

-- ---- the command of a call

-- a call that asks some tenant for the command k
record Asks (request : Result Request Problem) (k : Command) : Type 0 where
  pub tenant : List ℕ
  pub is : request ≡ Ok (record { tenant = tenant; action = action.Command k })

in_action : (a : Action) (k : Command) → command_in a ≡ Some k → a ≡ action.Command k
in_action action.CreateTenant k h = cc
in_action action.ShowTenant k h = cc
in_action action.DropTenant k h = cc
in_action (action.Command l) k h = let same : l ≡ k = cc in ap action.Command same
in_action (action.Query q) k h = cc

asks : (request : Result Request Problem) (k : Command) → command_asked request ≡ Some k → Asks request k
asks (Ok r) k h = record { tenant = r.tenant; is = ap (λ a. Ok (record { tenant = r.tenant; action = a })) (in_action r.action k h) }
asks (Err problem) k h = cc

-- a call with a request number has a command with it
numbered : (o : Option Command) (n : List ℕ) → option_map (λ k. k.number) o ≡ Some n → (k : Command) × (o ≡ Some k) × (k.number ≡ n)
numbered (Some k) n h = (k, refl, let e : k.number ≡ n = cc in e)
numbered None n h = cc

-- ---- the receipt of a call

-- under `number` the state has the receipt of the call c, which says the reply r
pub record HasReceipt (s : TenantState) (number : List ℕ) (c : Call) (r : Reply) : Type 0 where
  pub receipt : Receipt
  pub found : receipt_of number s.receipts ≡ Some receipt
  pub command : Command
  pub is : command_of c ≡ Some command
  pub path : receipt.path ≡ command.path
  pub body : receipt.body ≡ command.body
  pub reply : reply (repeated receipt.status receipt.reply) ≡ r

-- the state that a request leaves
abbrev Left : Result Request Problem → Option TenantState → Option TenantState
Left request s = after_effect (decision_or_refusal request s).effect s

-- a call with a number changes nothing, or leaves its receipt
pub accepted : (c : Call) (n : List ℕ) (s : Option TenantState) → number_of c ≡ Some n
    → ((step c s).state ≡ s) ⊎ ((u : TenantState) × ((step c s).state ≡ Some u) × HasReceipt u n c (step c s).reply)
unfolding step Acts
accepted c n s h =
    let has = numbered (command_of c) n h in
    let k = has.0 in
    let by = asks (request_of c) k has.1 in
    at s k has.1 has.2 by.tenant by.is
  where
    at : (s : Option TenantState) (k : Command) → command_of c ≡ Some k → k.number ≡ n → (tenant : List ℕ) → request_of c ≡ Ok (record { tenant = tenant; action = action.Command k })
        → ((step_of (decision_or_refusal (request_of c) s) s).state ≡ s)
        ⊎ ((u : TenantState) × ((step_of (decision_or_refusal (request_of c) s) s).state ≡ Some u) × HasReceipt u n c (step_of (decision_or_refusal (request_of c) s) s).reply)
    at None k is number tenant asked = inl (ap (λ q. Left q None) asked)
    at (Some x) k is number tenant asked =
        elim (acts k x) [
          | inl keeps ↦ inl (ap (λ q. Left q (Some x)) asked ∙ ap (λ e. after_effect e (Some x)) keeps)
          | inr changes ↦
              let a = accepts k x changes.0 changes.1 in
              inr (
                after changes.0 x,
                ap (λ q. Left q (Some x)) asked ∙ ap (λ e. after_effect e (Some x)) changes.1,
                record {
                  receipt = changes.0.receipt;
                  found = subst (λ m. receipt_of m (after changes.0 x).receipts ≡ Some changes.0.receipt) number (receipt_found k x changes.0 changes.1);
                  command = k;
                  is = is;
                  path = a.path;
                  body = a.body;
                  reply = a.reply ∙ ap (λ q. (step_of (decision_or_refusal q (Some x)) (Some x)).reply) (sym asked);
                },
              )
        ]

-- ---- it stays

same_receipts : (n : List ℕ) (r : Receipt) (s u : TenantState) → Some s ≡ Some u → receipt_of n s.receipts ≡ Some r → receipt_of n u.receipts ≡ Some r
same_receipts n r s u same there = let e : s ≡ u = cc in subst (λ x. receipt_of n x.receipts ≡ Some r) e there

stays_action : (tenant : List ℕ) (a : Action) (n : List ℕ) (s u : TenantState) (r : Receipt) → receipt_of n s.receipts ≡ Some r
    → after_effect (decision_on tenant a (Some s)).effect (Some s) ≡ Some u → receipt_of n u.receipts ≡ Some r
unfolding Acts
stays_action tenant action.CreateTenant n s u r there h = same_receipts n r s u h there
stays_action tenant action.ShowTenant n s u r there h = same_receipts n r s u h there
stays_action tenant action.DropTenant n s u r there h = cc
stays_action tenant (action.Command k) n s u r there h =
    elim (acts k s) [
      | inl keeps ↦ same_receipts n r s u (ap (λ e. after_effect e (Some s)) (sym keeps) ∙ h) there
      | inr changes ↦ same_receipts n r (after changes.0 s) u (ap (λ e. after_effect e (Some s)) (sym changes.1) ∙ h) (receipt_stays n k s changes.0 r changes.1 there)
    ]
stays_action tenant (action.Query q) n s u r there h = same_receipts n r s u h there

stays_request : (q : Result Request Problem) (n : List ℕ) (s u : TenantState) (r : Receipt) → receipt_of n s.receipts ≡ Some r → Left q (Some s) ≡ Some u → receipt_of n u.receipts ≡ Some r
stays_request (Ok q) n s u r there h = stays_action q.tenant q.action n s u r there h
stays_request (Err problem) n s u r there h = same_receipts n r s u h there

-- a receipt is there as long as its tenant is
pub receipt_lasts : (c : Call) (n : List ℕ) (s u : TenantState) (r : Receipt) → receipt_of n s.receipts ≡ Some r → (step c (Some s)).state ≡ Some u → receipt_of n u.receipts ≡ Some r
unfolding step
receipt_lasts c n s u r there h = stays_request (request_of c) n s u r there h

pub stays : (c d : Call) (n : List ℕ) (s u : TenantState) (r : Reply) → HasReceipt s n d r → (step c (Some s)).state ≡ Some u → HasReceipt u n d r
stays c d n s u r has h = record {
  receipt = has.receipt;
  found = receipt_lasts c n s u has.receipt has.found h;
  command = has.command;
  is = has.is;
  path = has.path;
  body = has.body;
  reply = has.reply;
}

-- a tenant is gone after a drop only
gone_action : (tenant : List ℕ) (a : Action) (s : TenantState) → after_effect (decision_on tenant a (Some s)).effect (Some s) ≡ None → a ≡ action.DropTenant
unfolding Acts
gone_action tenant action.CreateTenant s h = cc
gone_action tenant action.ShowTenant s h = cc
gone_action tenant action.DropTenant s h = refl
gone_action tenant (action.Command k) s h =
    elim (acts k s) [
      | inl keeps ↦ let both : Some s ≡ None = ap (λ e. after_effect e (Some s)) (sym keeps) ∙ h in cc
      | inr changes ↦ let both : Some (after changes.0 s) ≡ None = ap (λ e. after_effect e (Some s)) (sym changes.1) ∙ h in cc
    ]
gone_action tenant (action.Query q) s h = cc

gone_request : (q : Result Request Problem) (s : TenantState) → Left q (Some s) ≡ None → (tenant : List ℕ) × (q ≡ Ok (record { tenant = tenant; action = action.DropTenant }))
gone_request (Ok q) s h = (q.tenant, ap (λ a. Ok (record { tenant = q.tenant; action = a })) (gone_action q.tenant q.action s h))
gone_request (Err problem) s h = cc

pub gone : (c : Call) (s : TenantState) → (step c (Some s)).state ≡ None → (tenant : List ℕ) × (request_of c ≡ Ok (record { tenant = tenant; action = action.DropTenant }))
unfolding step
gone c s h = gone_request (request_of c) s h

-- ---- again

-- a number that has a receipt is answered from it, and nothing changes
asked_again : (c : Call) (n : List ℕ) (s : TenantState) (r : Receipt) (k : Command) → k.number ≡ n → receipt_of n s.receipts ≡ Some r → (tenant : List ℕ)
    → request_of c ≡ Ok (record { tenant = tenant; action = action.Command k }) → decision_or_refusal (request_of c) (Some s) ≡ decided effect.Keep (again k r)
asked_again c n s r k number there tenant asked =
    ap (λ q. decision_or_refusal q (Some s)) asked ∙ ap (λ o. on_receipt k (inventory_of s) o) (subst (λ m. receipt_of m s.receipts ≡ Some r) (sym number) there)

pub changes_nothing : (c : Call) (n : List ℕ) (s : TenantState) (r : Receipt) → number_of c ≡ Some n → receipt_of n s.receipts ≡ Some r → (step c (Some s)).state ≡ Some s
unfolding step
changes_nothing c n s r h there =
    let k = numbered (command_of c) n h in
    let by = asks (request_of c) k.0 k.1 in
    ap (λ (x : Decided). after_effect x.effect (Some s)) (asked_again c n s r k.0 k.2 there by.tenant by.is)

is_repeated : (k : Command) (r : Receipt) → r.path ≡ k.path → r.body ≡ k.body → again k r ≡ repeated r.status r.reply
is_repeated k r path body = rw (path, body, same_bytes k.path, same_bytes k.body) refl

-- a repeat has the reply of the call that left the receipt
pub same_again : (c d : Call) (n : List ℕ) (s : TenantState) (r : Reply) → number_of c ≡ Some n → HasReceipt s n d r → AreAlike d c → (step c (Some s)).reply ≡ r
unfolding step
same_again c d n s r h has alike =
    let k = numbered (command_of c) n h in
    let by = asks (request_of c) k.0 k.1 in
    let mine = call_from c k.0 k.1 in
    let its = call_from d has.command has.is in
    ap (λ (x : Decided). reply x.answer) (asked_again c n s has.receipt k.0 k.2 has.found by.tenant by.is)
    ∙ ap reply (is_repeated k.0 has.receipt (has.path ∙ its.0 ∙ alike.0 ∙ sym mine.0) (has.body ∙ its.1 ∙ alike.1 ∙ sym mine.1)) ∙ has.reply
