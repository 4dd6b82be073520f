-- What a reply, and a run, say of the states of all tenants.
use Rattle.std.specs.Prelude.{ℕ, ◌≡◌, ◌⊎◌, ◌↔◌, List, length, Bool, true, false, Option, None, option_map}
use Rattle.std.specs.List.{All, AllZip}
use Rattle.tenant_core.specs.Alone.{alone, is_answered, replies_answered, calls_answered}
use Rattle.tenant_core.specs.Step.{step, is_of, tenant_of}
use Rattle.tenant_core.specs.StoreReply.{IsUnavailable, reply_where_damaged}
use Rattle.tenant_messages.specs.declared.call.Call.{Call}
use Rattle.tenant_messages.specs.declared.reply.Reply.{Reply}
use Rattle.tenant_state.specs.State.{Inventory, TenantState, inventory_of}

-- ---- states

-- which state each name has, or none where that tenant is absent. It is a relation, since data of a
-- name may be damaged
abbrev pub States : Type 1
States = List ℕ → Option TenantState → Type 0

-- the data of the name is damaged: it has no state, and isn't absent either
abbrev pub IsDamaged : States → List ℕ → Type 0
IsDamaged states t = (s : Option TenantState) → ¬ states t s

-- each name has the state that it had, and no other
abbrev pub Same : States → States → Type 0
Same old new = (t : List ℕ) (s : Option TenantState) → old t s ↔ new t s

-- what a store finds of a name: what its state has, or none where it is absent
abbrev pub HasInventory : States → List ℕ → Option Inventory → Type 0
HasInventory states t found = (s : Option TenantState) × states t s × (found ≡ option_map inventory_of s)

-- ---- stops

-- what an opening of a store may find of a name
pub data Found : Type 0 where
  Damaged : Found  -- data of no state
  HasState : Option TenantState → Found  -- a state, or none where the tenant is absent

-- what an opening may find of each name
abbrev pub Outcomes : Type 1
Outcomes = List ℕ → Found → Type 0

abbrev pub Shows : States → List ℕ → Found → Type 0
Shows states t Damaged = IsDamaged states t
Shows states t (HasState s) = states t s

-- an opening finds each name as it was
abbrev pub LeavesAsItWas : States → Outcomes → Type 0
LeavesAsItWas old left = (t : List ℕ) (found : Found) → left t found → Shows old t found

-- or it finds this name in this state
abbrev pub LeavesAsItWasOr : List ℕ → Option TenantState → States → Outcomes → Type 0
LeavesAsItWasOr name s old left =
    (t : List ℕ) (found : Found) → left t found → Shows old t found ⊎ ((t ≡ name) × (found ≡ HasState s))

-- or it finds the call's tenant in the state that the call's step leaves
abbrev pub LeavesStep : Call → States → Outcomes → Type 0
LeavesStep call old left =
    (t : List ℕ) (found : Found) → left t found
    → Shows old t found ⊎ ((is_of t call ≡ true) × (s : Option TenantState) × old t s × (found ≡ HasState (step call s).state))

-- ---- one reply

-- the reply isn't 503; it is the step's on the state of the call's tenant, which then has the
-- step's state; a damaged tenant stays damaged; the state of every other tenant is unchanged
pub record Follows (call : Call) (old new : States) (reply : Reply) : Type 0 where
  pub answered : is_answered reply ≡ true
  pub own : (t : List ℕ) (s : Option TenantState) → is_of t call ≡ true → old t s → (reply ≡ (step call s).reply) × new t (step call s).state
  pub damaged : (t : List ℕ) → is_of t call ≡ true → IsDamaged old t → (reply ≡ reply_where_damaged call) × IsDamaged new t
  pub others : (t : List ℕ) (s : Option TenantState) → is_of t call ≡ false → (old t s ↔ new t s)
  pub nobody : tenant_of call ≡ None → reply ≡ (step call None).reply

-- the reply is 503, and the state of every tenant is unchanged
pub record GivesUp (old new : States) (reply : Reply) : Type 0 where
  pub unavailable : IsUnavailable reply
  pub same : Same old new

-- the call is served: either of these
abbrev pub Serves : Call → States → States → Reply → Type 0
Serves call old new reply = Follows call old new reply ⊎ GivesUp old new reply

-- ---- a run

-- the headline, for every tenant t: its replies other than 503 are those of the definition
-- run over just the requests so answered, from the state that t had
abbrev pub Headline : States → List Call → List Reply → Type 0
Headline old calls replies =
    (t : List ℕ) (s : Option TenantState) → old t s → replies_answered t calls replies ≡ (alone s (calls_answered t calls replies)).replies

-- every tenant then has the state that those requests leave
abbrev pub Leaves : States → States → List Call → List Reply → Type 0
Leaves old new calls replies =
    (t : List ℕ) (s : Option TenantState) → old t s → new t (alone s (calls_answered t calls replies)).state

-- a call of no tenant is served: the reply is the step's, which depends on the call alone, or 503
abbrev pub ServesCallOfNobody : Call → Reply → Type 0
ServesCallOfNobody call reply = tenant_of call ≡ None → (reply ≡ (step call None).reply) ⊎ IsUnavailable reply

-- each call of no tenant is served like this
abbrev pub ServesCallsOfNobody : List Call → List Reply → Type 0
ServesCallsOfNobody calls replies = AllZip ServesCallOfNobody calls replies

-- a call of a damaged tenant is served: the reply is the one for a damaged tenant, or 503
abbrev pub ServesCallOfDamaged : List ℕ → Call → Reply → Type 0
ServesCallOfDamaged t call reply = is_of t call ≡ true → (reply ≡ reply_where_damaged call) ⊎ IsUnavailable reply

-- the calls of each damaged tenant are served like this
abbrev pub ServesCallsOfDamaged : States → List Call → List Reply → Type 0
ServesCallsOfDamaged old calls replies = (t : List ℕ) → IsDamaged old t → AllZip (ServesCallOfDamaged t) calls replies

-- each damaged tenant stays damaged
abbrev pub StaysDamaged : States → States → Type 0
StaysDamaged old new = (t : List ℕ) → IsDamaged old t → IsDamaged new t

-- each reply of the status 503 names one of the two causes
abbrev pub NamesCause : Reply → Type 0
NamesCause reply = reply.status ≡ 503 → IsUnavailable reply

-- a run: one reply for each call, the headline, and what it leaves where the store isn't latched
pub record MeetsDefinition (is_latched : Bool) (old new : States) (calls : List Call) (replies : List Reply) : Type 0 where
  pub count : length replies ≡ length calls
  pub headline : Headline old calls replies
  pub leaves : is_latched ≡ false → Leaves old new calls replies
  pub nobody : ServesCallsOfNobody calls replies
  pub damaged : ServesCallsOfDamaged old calls replies
  pub stays : is_latched ≡ false → StaysDamaged old new
  pub causes : All NamesCause replies
