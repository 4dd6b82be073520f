-- Reading a changing request whose body is text.
use Rattle.std.proofs.Common.{◌≡◌, ◌∙◌, ℕ, List, Bool, true, false, Some, None, option_map, option_and_then, if◌then◌else◌, sym, ap}
use Rattle.std.specs.Str.{is_utf8}
use Rattle.serde_json.specs.Data.{Data}
use Rattle.crush_pool.specs.declared.pool.PoolParts.{PoolParts}
use Rattle.tenant_core.specs.Route.{command_of, read}
use Rattle.tenant_core.specs.Target.{Target}
use Rattle.tenant_core.specs.declared.commands.Order.TheVariants.{CreatePool}
use Rattle.tenant_core.specs.declared.request.Action.{Action}
use Rattle.tenant_core.specs.declared.route.Route.TheVariants as route
use Rattle.tenant_messages.specs.Json.{text_of, value_of}
use Rattle.tenant_resources.specs.Pools as pools

-- the text of a body has its bytes
pub same_text : (body text : List ℕ) → text_of body ≡ Some text → text ≡ body
same_text body text h = at (is_utf8 body) h
  where
    at : (b : Bool) → (if b then Some body else None) ≡ Some text → text ≡ body
    at true h = let same : body ≡ text = cc in sym same
    at false h = cc

pub pool_read : (target : Target) (body text number : List ℕ) (d : Data) (pool : PoolParts) (action : Action) → text_of body ≡ Some text → value_of text ≡ Some d
    → pools.pool_of d ≡ Some (number, pool) → action ≡ command_of target text number (CreatePool pool) → read route.CreatePool target body ≡ Some action
pool_read target body text number d pool action utf8 value found is =
    rw (← same_text body text utf8)
    (ap (option_map (λ asked. command_of target text asked.0 (CreatePool asked.1))) (ap (option_and_then pools.pool_of) value ∙ found) ∙ ap Some (sym is))
