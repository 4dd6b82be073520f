-- The change of an accepted order.
use Rattle.std.proofs.Common.{◌≡◌, ℕ, List, refl}
use Rattle.tenant_state.specs.State.{Product}
use Rattle.tenant_state.specs.declared.receipts.Receipt.{Receipt}
use Rattle.tenant_messages.specs.declared.reply.SuccessStatus.{SuccessStatus}
use Rattle.tenant_core.specs.declared.decision.Effect.{Effect}
use Rattle.tenant_core.specs.declared.decision.Effect.TheVariants.{Change}

pub same_receipt : (path body reply path' body' reply' : List ℕ) (status : SuccessStatus) → path ≡ path' → body ≡ body' → reply ≡ reply'
    → ◌≡◌ {A = Receipt} (record { path = path; body = body; status = status; reply = reply }) (record { path = path'; body = body'; status = status; reply = reply' })
same_receipt path body reply path' body' reply' status p b r = rw (p, b, r) refl

pub same_change : (number number' : List ℕ) (receipt receipt' : Receipt) (made : Product) → number ≡ number' → receipt ≡ receipt'
    → ◌≡◌ {A = Effect} (Change (record { number = number; receipt = receipt; made = made })) (Change (record { number = number'; receipt = receipt'; made = made }))
same_change number number' receipt receipt' made n r = rw (n, r) refl
