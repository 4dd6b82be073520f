-- A changing request acts once, and its change fits the state.
use Rattle.std.proofs.Common.{◌≡◌, ◌<◌, ◌∙◌, ℕ, suc, List, Bool, true, false, nat_le, if◌then◌else◌, Option, Some, None, Result, Ok, Err, bytes_eq, refl, sym, ap, subst, arith}
use Rattle.std.proofs.lemmas.Bool.Decides.{nat_tests}
use Rattle.std.proofs.lemmas.Slice.Eq.{bytes_eq-Decides}
use Rattle.tenant_core.proofs.Making.{can_take}
use Rattle.tenant_core.specs.Commands.{decision, on_receipt, change_or_refusal, order_on, again, receipt_for, Command}
use Rattle.tenant_core.specs.Effects.{Decided, Fits, decided}
use Rattle.tenant_resources.specs.Orders.{Acceptance}
use Rattle.tenant_state.proofs.Counting.{found, grown, kept, same_bytes}
use Rattle.tenant_state.specs.Receipts.{receipt_of}
use Rattle.tenant_messages.specs.Reply.{refused, repeated, reply}
use Rattle.tenant_state.specs.declared.limits.TheConstants.{RECEIPT_LIMIT}
use Rattle.tenant_state.specs.State.{CanMake, TenantState, Change, after, epoch, inventory_of}
use Rattle.tenant_core.specs.Step.{decision_on}
use Rattle.tenant_state.specs.declared.receipts.Receipt.{Receipt}
use Rattle.tenant_messages.specs.declared.reply.Problem.{Problem}
use Rattle.tenant_messages.specs.declared.reply.Problem.TheVariants.{TenantLimit}
use Rattle.tenant_core.specs.declared.request.Action.{Action}
use Rattle.tenant_core.specs.declared.request.Action.TheVariants as action
use Rattle.tenant_core.specs.declared.decision.Effect.TheVariants as effect

-- ---- a changing request that is accepted

-- its number had no receipt, and the receipt that it leaves says the request and the reply
pub record Accepts (k : Command) (s : TenantState) (c : Change) (d : Decided) : Type 0 where
  pub new : receipt_of k.number s.receipts ≡ None
  pub number : c.number ≡ k.number
  pub path : c.receipt.path ≡ k.path
  pub body : c.receipt.body ≡ k.body
  pub reply : reply (repeated c.receipt.status c.receipt.reply) ≡ reply d.answer

accepts_order : (k : Command) (s : TenantState) (c : Change) (a : Result Acceptance Problem) → receipt_of k.number s.receipts ≡ None
    → (change_or_refusal k a).effect ≡ effect.Change c → Accepts k s c (change_or_refusal k a)
unfolding reply
accepts_order k s c (Err problem) none h = cc
accepts_order k s c (Ok a) none h =
    let is : ◌≡◌ {A = Change} (record { number = k.number; receipt = receipt_for k a; made = a.made }) c = cc in
    subst (λ (x : Change). Accepts k s x (change_or_refusal k (Ok a))) is (record { new = none; number = refl; path = refl; body = refl; reply = refl })

accepts_new : (k : Command) (s : TenantState) (c : Change) (full : Bool) → receipt_of k.number s.receipts ≡ None
    → (if full then decided effect.Keep (refused TenantLimit) else change_or_refusal k (order_on k.order (inventory_of s))).effect ≡ effect.Change c
    → Accepts k s c (if full then decided effect.Keep (refused TenantLimit) else change_or_refusal k (order_on k.order (inventory_of s)))
accepts_new k s c true none h = cc
accepts_new k s c false none h = accepts_order k s c (order_on k.order (inventory_of s)) none h

accepts_on : (k : Command) (s : TenantState) (c : Change) (o : Option Receipt) → receipt_of k.number s.receipts ≡ o → (on_receipt k (inventory_of s) o).effect ≡ effect.Change c
    → Accepts k s c (on_receipt k (inventory_of s) o)
accepts_on k s c (Some r) is h = cc
accepts_on k s c None is h = accepts_new k s c (nat_le RECEIPT_LIMIT (epoch s)) is h

pub accepts : (k : Command) (s : TenantState) (c : Change) → (decision k s).effect ≡ effect.Change c → Accepts k s c (decision k s)
accepts k s c h = accepts_on k s c (receipt_of k.number s.receipts) refl h

-- ---- the laws

pub epoch_grows : (k : Command) (s : TenantState) (c : Change) → (decision k s).effect ≡ effect.Change c → epoch (after c s) ≡ suc (epoch s)
epoch_grows k s c h = let a = accepts k s c h in rw a.number (grown k.number c.receipt s.receipts a.new)

pub receipt_found : (k : Command) (s : TenantState) (c : Change) → (decision k s).effect ≡ effect.Change c → receipt_of k.number (after c s).receipts ≡ Some c.receipt
receipt_found k s c h = rw ((accepts k s c h).number) (found k.number c.receipt s.receipts)

stays_at : (n : List ℕ) (k : Command) (s : TenantState) (c : Change) (r : Receipt) (same : Bool) → same ≡ bytes_eq n k.number → Accepts k s c (decision k s)
    → receipt_of n s.receipts ≡ Some r → receipt_of n (after c s).receipts ≡ Some r
stays_at n k s c r true same a h =
    let one : n ≡ k.number = grind (arith, bytes_eq-Decides n k.number, sym same) in
    let both : Some r ≡ None = sym h ∙ (ap (λ m. receipt_of m s.receipts) one ∙ a.new) in cc
stays_at n k s c r false same a h = rw a.number (kept n k.number c.receipt s.receipts (sym same) ∙ h)

pub receipt_stays : (n : List ℕ) (k : Command) (s : TenantState) (c : Change) (r : Receipt) → (decision k s).effect ≡ effect.Change c
    → receipt_of n s.receipts ≡ Some r → receipt_of n (after c s).receipts ≡ Some r
receipt_stays n k s c r h there = stays_at n k s c r (bytes_eq n k.number) refl (accepts k s c h) there

is_repeated : (k : Command) (r : Receipt) → r.path ≡ k.path → r.body ≡ k.body → again k r ≡ repeated r.status r.reply
is_repeated k r path body = rw (path, body, same_bytes k.path, same_bytes k.body) refl

pub repeats : (k : Command) (s u : TenantState) (c : Change) → (decision k s).effect ≡ effect.Change c → receipt_of k.number u.receipts ≡ Some c.receipt
    → decision k u ≡ decided effect.Keep (repeated c.receipt.status c.receipt.reply)
repeats k s u c h there = let a = accepts k s c h in rw there (ap (decided effect.Keep) (is_repeated k c.receipt a.path a.body))

-- ---- of all actions

-- an action that changes the state is a command
pub only_commands_change : (P : Change → Type 0) (tenant : List ℕ) (a : Action) (s : TenantState) (c : Change) → (decision_on tenant a (Some s)).effect ≡ effect.Change c
    → ((k : Command) → (decision k s).effect ≡ effect.Change c → P c) → P c
only_commands_change P tenant action.CreateTenant s c h by = cc
only_commands_change P tenant action.ShowTenant s c h by = cc
only_commands_change P tenant action.DropTenant s c h by = cc
only_commands_change P tenant (action.Command k) s c h by = by k h
only_commands_change P tenant (action.Query q) s c h by = cc

pub action_grows : (tenant : List ℕ) (a : Action) (s : TenantState) (c : Change) → (decision_on tenant a (Some s)).effect ≡ effect.Change c → epoch (after c s) ≡ suc (epoch s)
action_grows tenant a s c h = only_commands_change (λ c. epoch (after c s) ≡ suc (epoch s)) tenant a s c h (λ k is. epoch_grows k s c is)

-- ---- what a decision needs of the state

fits_order : (k : Command) (s : TenantState) (a : Result Acceptance Problem) → order_on k.order (inventory_of s) ≡ a → receipt_of k.number s.receipts ≡ None → epoch s < RECEIPT_LIMIT
    → Fits (change_or_refusal k a).effect (Some s)
fits_order k s (Err problem) is none room = tt
fits_order k s (Ok a) is none room = record { new = none; room = room; made = can_take k.order (inventory_of s) a is }

fits_new : (k : Command) (s : TenantState) (full : Bool) → nat_le RECEIPT_LIMIT (epoch s) ≡ full → receipt_of k.number s.receipts ≡ None
    → Fits (if full then decided effect.Keep (refused TenantLimit) else change_or_refusal k (order_on k.order (inventory_of s))).effect (Some s)
fits_new k s true is none = tt
fits_new k s false is none = fits_order k s (order_on k.order (inventory_of s)) refl none (grind (arith, nat_tests, is))

fits_on : (k : Command) (s : TenantState) (o : Option Receipt) → receipt_of k.number s.receipts ≡ o → Fits (on_receipt k (inventory_of s) o).effect (Some s)
fits_on k s (Some r) is = tt
fits_on k s None is = fits_new k s (nat_le RECEIPT_LIMIT (epoch s)) refl is

-- a change that is decided on is one that the state can make
pub decided_fits : (k : Command) (s : TenantState) (c : Change) → (decision k s).effect ≡ effect.Change c → CanMake c s
decided_fits k s c h = subst (λ e. Fits e (Some s)) h (fits_on k s (receipt_of k.number s.receipts) refl)

pub decision_fits : (tenant : List ℕ) (a : Action) (s : Option TenantState) → Fits (decision_on tenant a s).effect s
decision_fits tenant action.CreateTenant None = refl
decision_fits tenant action.CreateTenant (Some s) = tt
decision_fits tenant action.ShowTenant None = tt
decision_fits tenant action.ShowTenant (Some s) = tt
decision_fits tenant action.DropTenant None = tt
decision_fits tenant action.DropTenant (Some s) = refl
decision_fits tenant (action.Command k) None = tt
decision_fits tenant (action.Command k) (Some s) = fits_on k s (receipt_of k.number s.receipts) refl
decision_fits tenant (action.Query q) None = tt
decision_fits tenant (action.Query q) (Some s) = tt
