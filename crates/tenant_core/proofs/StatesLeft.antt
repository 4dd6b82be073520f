-- The change that a decision makes leaves a state.
use Rattle.std.proofs.Common.{◌≡◌, List, ℕ, Bool, true, false, nat_le, if◌then◌else◌, Option, Some, None, Result, Ok, Err, refl, sym}
use Rattle.std.specs.Str.{is_utf8}
use Rattle.tenant_core.proofs.Making.{ReadsMaps, in_range}
use Rattle.tenant_core.proofs.Once.{Accepts, accepts, decided_fits}
use Rattle.tenant_core.specs.Commands.{IsCommand, decision, on_receipt, change_or_refusal, order_on, Command}
use Rattle.tenant_core.specs.Effects.{Decided, decided}
use Rattle.tenant_core.specs.Request.{IsAction}
use Rattle.tenant_core.specs.Step.{decision_on}
use Rattle.tenant_core.specs.declared.decision.Effect.TheVariants as effect
use Rattle.tenant_core.specs.declared.request.Action.{Action}
use Rattle.tenant_core.specs.declared.request.Action.TheVariants as action
use Rattle.tenant_messages.specs.Numbers.{has_length}
use Rattle.tenant_messages.specs.Reply.{refused}
use Rattle.tenant_messages.specs.declared.reply.Problem.{Problem}
use Rattle.tenant_messages.specs.declared.reply.Problem.TheVariants.{TenantLimit}
use Rattle.tenant_resources.specs.Orders.{Acceptance}
use Rattle.tenant_state.proofs.Leaving.{state_stays}
use Rattle.tenant_state.specs.Receipts.{receipt_of}
use Rattle.tenant_state.specs.State.{Change, TenantState, after, epoch, inventory_of}
use Rattle.tenant_state.specs.Valid.{IsChange, IsState, is_receipt}
use Rattle.tenant_state.specs.declared.limits.TheConstants.{RECEIPT_LIMIT}
use Rattle.tenant_state.specs.declared.receipts.Receipt.{Receipt}

-- ---- the order that a change makes

record Accepting (k : Command) (s : TenantState) (c : Change) : Type 0 where
  pub accepted : Acceptance
  pub is : order_on k.order (inventory_of s) ≡ Ok accepted
  pub made : c.made ≡ accepted.made

accepting_order : (k : Command) (s : TenantState) (c : Change) (a : Result Acceptance Problem) → order_on k.order (inventory_of s) ≡ a → (change_or_refusal k a).effect ≡ effect.Change c → Accepting k s c
accepting_order k s c (Err problem) is h = cc
accepting_order k s c (Ok a) is h = let made : a.made ≡ c.made = cc in record { accepted = a; is = is; made = sym made }

accepting_new : (k : Command) (s : TenantState) (c : Change) (full : Bool)
    → (if full then decided effect.Keep (refused TenantLimit) else change_or_refusal k (order_on k.order (inventory_of s))).effect ≡ effect.Change c → Accepting k s c
accepting_new k s c true h = cc
accepting_new k s c false h = accepting_order k s c (order_on k.order (inventory_of s)) refl h

accepting_on : (k : Command) (s : TenantState) (c : Change) (o : Option Receipt) → (on_receipt k (inventory_of s) o).effect ≡ effect.Change c → Accepting k s c
accepting_on k s c (Some r) h = cc
accepting_on k s c None h = accepting_new k s c (nat_le RECEIPT_LIMIT (epoch s)) h

accepting : (k : Command) (s : TenantState) (c : Change) → (decision k s).effect ≡ effect.Change c → Accepting k s c
accepting k s c h = accepting_on k s c (receipt_of k.number s.receipts) h

-- ---- the change

-- a receipt under a number, by its parts
pub receipt_is : (number : List ℕ) (receipt : Receipt) → has_length number ≡ true → is_utf8 number ≡ true → is_utf8 receipt.path ≡ true → is_utf8 receipt.body ≡ true
    → is_utf8 receipt.reply ≡ true → is_receipt (number, receipt) ≡ true
receipt_is number receipt length text path body reply = rw (length, text, path, body, reply) refl

change_is : (k : Command) (s : TenantState) (c : Change) (d : Decided) → ReadsMaps → IsCommand k → IsState s → Accepts k s c d → Accepting k s c → is_utf8 c.receipt.reply ≡ true → IsChange c
change_is k s c d reads is state by how reply = record {
  made = rw how.made (in_range k.order (inventory_of s) how.accepted how.is reads is.order state.has);
  receipt = receipt_is c.number c.receipt (rw by.number is.number) (rw by.number is.number_text) (rw by.path is.path_text) (rw by.body is.body_text) reply;
}

command_leaves : (k : Command) (s : TenantState) (c : Change) → ReadsMaps → IsCommand k → IsState s → (decision k s).effect ≡ effect.Change c → is_utf8 c.receipt.reply ≡ true → IsState (after c s)
command_leaves k s c reads is state h reply =
    state_stays c s (change_is k s c (decision k s) reads is state (accepts k s c h) (accepting k s c h) reply) (decided_fits k s c h) state

pub action_leaves_state : ReadsMaps → (tenant : List ℕ) (a : Action) (s : TenantState) (c : Change) → IsAction a → IsState s → (decision_on tenant a (Some s)).effect ≡ effect.Change c
    → is_utf8 c.receipt.reply ≡ true → IsState (after c s)
action_leaves_state reads tenant action.CreateTenant s c is state h reply = cc
action_leaves_state reads tenant action.ShowTenant s c is state h reply = cc
action_leaves_state reads tenant action.DropTenant s c is state h reply = cc
action_leaves_state reads tenant (action.Command k) s c is state h reply = command_leaves k s c reads is state h reply
action_leaves_state reads tenant (action.Query q) s c is state h reply = cc
