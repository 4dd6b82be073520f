-- The line at which the store latched.
use Rattle.std.specs.Prelude.{ℕ, ◌≡◌, List, [], ◌∷◌, Option, Some}
use Rattle.std.specs.Io.KnownBytes.{Appends}
use Rattle.tenant_core.specs.States.{States, Outcomes, LeavesStep}
use Rattle.tenant_core.specs.StoreReply.{IsUnavailable}
use Rattle.tenant_core.specs.tenant_messages.specs.declared.call.Call.{Call}
use Rattle.tenant_core.specs.tenant_messages.specs.declared.reply.Reply.{Reply}
use Rattle.crush_app.specs.Script.{wire}

-- the message is a call that latched the store; it was answered 503, and its line was written
pub record PlaysLatching (old : States) (left : Outcomes) (ms : List (Option Call)) (from to : Option (List ℕ)) : Type 0 where
  pub call : Call
  pub one : ms ≡ Some call ∷ []
  pub reply : Reply
  pub silent : IsUnavailable reply
  pub leaves : LeavesStep call old left
  pub written : Appends from to (wire reply)
