-- Changing requests: each has a request number, and acts once.
use Rattle.std.specs.Prelude.{ℕ, ◌≡◌, List, true, nat_le, if◌then◌else◌, Option, Some, None, Result, Ok, Err}
use Rattle.std.specs.List.{list_all}
use Rattle.std.specs.Str.{is_utf8}
use Rattle.serde_json.specs.Written.{compact_text}
use Rattle.crush_pool.specs.Exceptions.{are_pairs}
use Rattle.crush_pool.specs.Pools.{is_pool}
use Rattle.crush_pool.specs.declared.limits.TheConstants.{GROUP_LIMIT}
use Rattle.tenant_core.specs.Effects.{Decided, decided}
use Rattle.tenant_resources.specs.Orders.{Acceptance}
use Rattle.tenant_resources.specs.Devices as devices
use Rattle.tenant_resources.specs.Exceptions as exceptions
use Rattle.tenant_resources.specs.Maps as maps
use Rattle.tenant_resources.specs.Pools as pools
use Rattle.tenant_state.specs.Receipts.{receipt_of, is_repeat}
use Rattle.tenant_messages.specs.Numbers.{has_length}
use Rattle.tenant_messages.specs.Reply.{Answer, refused, answered, repeated}
use Rattle.tenant_state.specs.declared.limits.TheConstants.{RECEIPT_LIMIT}
use Rattle.tenant_state.specs.State.{Inventory, TenantState, inventory_of}
use Rattle.tenant_core.specs.declared.commands.Order.{Order}
use Rattle.tenant_core.specs.declared.commands.Order.TheVariants.{ImportMap, ChangeDevices, CreatePool, SetExceptions, RemovePool}
use Rattle.tenant_state.specs.declared.receipts.Receipt.{Receipt}
use Rattle.tenant_messages.specs.declared.reply.Problem.{Problem}
use Rattle.tenant_messages.specs.declared.reply.Problem.TheVariants.{RequestReused, TenantLimit}
use Rattle.tenant_core.specs.declared.decision.Effect.TheVariants.{Keep, Change}

-- a changing request: its number, its path and body as they came, and what it asks for
pub record Command : Type 0 where
  pub number : List ℕ
  pub path : List ℕ
  pub body : List ℕ
  pub order : Order

-- the order is in its ranges
abbrev pub IsOrder : Order → Type 0
IsOrder (ImportMap text) = Unit {0}
IsOrder (ChangeDevices changes) = list_all devices.is_in_range changes ≡ true
IsOrder (CreatePool pool) = is_pool pool ≡ true
IsOrder (SetExceptions id pairs) = are_pairs GROUP_LIMIT pairs ≡ true
IsOrder (RemovePool id) = Unit {0}

-- a changing request as it is read: its number has its length, and its texts are UTF-8
pub record IsCommand (command : Command) : Type 0 where
  pub number : has_length command.number ≡ true
  pub number_text : is_utf8 command.number ≡ true
  pub path_text : is_utf8 command.path ≡ true
  pub body_text : is_utf8 command.body ≡ true
  pub order : IsOrder command.order

-- what an order makes, or why nothing: the table of all orders
abbrev pub order_on : Order → Inventory → Result Acceptance Problem
order_on (ImportMap text) inventory = maps.imported text inventory
order_on (ChangeDevices changes) inventory = devices.devices_changed changes inventory
order_on (CreatePool pool) inventory = pools.created pool inventory
order_on (SetExceptions id pairs) inventory = exceptions.exceptions_set id pairs inventory
order_on (RemovePool id) inventory = pools.removed id inventory

-- ---- once

abbrev pub receipt_for : Command → Acceptance → Receipt
receipt_for command a = record { path = command.path; body = command.body; status = a.status; reply = compact_text a.body }

-- an order that is accepted makes its change, with a receipt; one that is refused changes nothing
-- and leaves no receipt
abbrev pub change_or_refusal : Command → Result Acceptance Problem → Decided
change_or_refusal command (Err problem) = decided Keep (refused problem)
change_or_refusal command (Ok a) =
    decided (Change (record { number = command.number; receipt = receipt_for command a; made = a.made })) (answered a.status a.body)

-- to a request number that has a receipt: its reply again, or a refusal where another request left
-- it
abbrev pub again : Command → Receipt → Answer
again command receipt =
    if is_repeat command.path command.body receipt then repeated receipt.status receipt.reply else refused RequestReused

-- from what the tenant has, and from the receipt of the request number
abbrev pub on_receipt : Command → Inventory → Option Receipt → Decided
on_receipt command inventory (Some receipt) = decided Keep (again command receipt)
on_receipt command inventory None =
    if nat_le RECEIPT_LIMIT inventory.epoch then decided Keep (refused TenantLimit)
    else change_or_refusal command (order_on command.order inventory)

abbrev pub decision : Command → TenantState → Decided
decision command state = on_receipt command (inventory_of state) (receipt_of command.number state.receipts)
