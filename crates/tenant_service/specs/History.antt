-- Sessions, and histories of them: what a service does between one opening of its store and the
-- next, and which of its calls are kept.
use Rattle.std.specs.Prelude.{ℕ, ◌≡◌, ◌⊎◌, ◌<◌, List, [], ◌∷◌, ◌++◌, length, map, filter, take, drop, slice_get, flat_map, false, Option, Some, None}
use Rattle.std.specs.List.{All, AllZip}
use Rattle.tenant_core.specs.Alone.{alone, is_answered, answered, calls_answered, replies_answered}
use Rattle.tenant_core.specs.Step.{is_of}
use Rattle.tenant_core.specs.tenant_messages.specs.declared.call.Call.{Call}
use Rattle.tenant_core.specs.tenant_messages.specs.declared.reply.Reply.{Reply}
use Rattle.tenant_core.specs.tenant_state.specs.State.{TenantState}

-- ---- one session

-- the state of each name that its opening found, its calls, the replies to them, and its doubt:
-- none, or the place of a call
pub record Session : Type 0 where
  pub found : List ℕ → Option TenantState
  pub calls : List Call
  pub replies : List Reply
  pub doubt : Option ℕ

-- the calls of a tenant that were acknowledged: answered by anything but 503
abbrev pub acknowledged : List ℕ → Session → List Call
acknowledged t session = calls_answered t session.calls session.replies

-- the replies to the acknowledged calls
abbrev pub acknowledgements : List ℕ → Session → List Reply
acknowledgements t session = replies_answered t session.calls session.replies

-- the call at the place of a doubt: a list of one, or none
abbrev pub at_doubt : Option ℕ → List Call → List Call
at_doubt None calls = []
at_doubt (Some place) calls = take 1 (drop place calls)

-- the call in doubt, where there is one and it is the tenant's
abbrev pub in_doubt : List ℕ → Session → List Call
in_doubt t session = filter (is_of t) (at_doubt session.doubt session.calls)

-- a doubt is the place of a reply; from there on every reply is 503
abbrev pub IsSilentFrom : Option ℕ → List Reply → Type 0
IsSilentFrom None replies = Unit {0}
IsSilentFrom (Some place) replies = (place < length replies) × All (λ reply. is_answered reply ≡ false) (drop place replies)

-- A session is sound for a tenant: it has a reply to each call; the replies to the tenant's
-- acknowledged calls are those of the definition, run over just those calls from the state that was
-- found; and from its doubt on every reply is 503.
pub record IsSoundFor (t : List ℕ) (session : Session) : Type 0 where
  pub count : length session.replies ≡ length session.calls
  pub replies : acknowledgements t session ≡ (alone (session.found t) (acknowledged t session)).replies
  pub silent : IsSilentFrom session.doubt session.replies

-- the state that the session may leave of a tenant: that after its acknowledged calls, or after
-- those and then its call in doubt
abbrev pub MayLeave : List ℕ → Session → Option TenantState → Type 0
MayLeave t session state =
    (state ≡ (alone (session.found t) (acknowledged t session)).state) ⊎ (state ≡ (alone (session.found t) (acknowledged t session ++ in_doubt t session)).state)

-- ---- histories

-- each later session found of the tenant what the one before may leave
abbrev pub IsLinkedFor : List ℕ → Session → List Session → Type 0
IsLinkedFor t session [] = Unit {0}
IsLinkedFor t session (next ∷ later) = MayLeave t session (next.found t) × IsLinkedFor t next later

-- a history as a tenant sees it: a first session and later ones, all of them sound for it and
-- linked
pub record IsHistoryFor (t : List ℕ) (first : Session) (later : List Session) : Type 0 where
  pub sound : All (IsSoundFor t) (first ∷ later)
  pub linked : IsLinkedFor t first later

-- ---- what is kept

-- a call that is kept, with its reply where it was acknowledged
pub record Kept : Type 0 where
  pub call : Call
  pub reply : Option Reply

abbrev pub calls_of : List Kept → List Call
calls_of kept = map (λ k. k.call) kept

-- the acknowledged calls of a tenant, with their replies
abbrev pub kept_acknowledged : List ℕ → Session → List Kept
kept_acknowledged t session = map (λ p. record { call = p.0; reply = Some p.1 }) (answered t session.calls session.replies)

-- the call in doubt of a tenant, if there is one, without a reply
abbrev pub kept_in_doubt : List ℕ → Session → List Kept
kept_in_doubt t session = map (λ call. record { call = call; reply = None }) (in_doubt t session)

-- the list is kept of a session: every acknowledged call of the tenant, its call in doubt or not,
-- and no other call
abbrev pub IsKeptOf : List ℕ → Session → List Kept → Type 0
IsKeptOf t session part = (part ≡ kept_acknowledged t session) ⊎ (part ≡ kept_acknowledged t session ++ kept_in_doubt t session)

-- the first calls are some of the second, in their order
abbrev pub AreInOrder : List Call → List Call → Type 0
AreInOrder [] calls = Unit {0}
AreInOrder (c ∷ cs) [] = ⊥
AreInOrder (c ∷ cs) (call ∷ calls) = ((c ≡ call) × AreInOrder cs calls) ⊎ AreInOrder (c ∷ cs) calls

-- the calls that are kept of a session are in the order of its calls
abbrev pub KeepsOrder : Session → List Kept → Type 0
KeepsOrder session part = AreInOrder (calls_of part) session.calls

-- the parts as one list
abbrev pub joined : List (List Kept) → List Kept
joined parts = flat_map (λ part. part) parts

-- the reply to a kept call, where it was acknowledged, is r
abbrev pub IsReplyTo : Kept → Reply → Type 0
IsReplyTo kept reply = (r : Reply) → kept.reply ≡ Some r → r ≡ reply

-- A list that is kept of a history, in a part for each session, explains what a tenant saw: each
-- opening found the state that the definition leaves after the parts before, begun with the state
-- that the first opening found; and each acknowledgement is the definition's reply in that run.
pub record Explains (t : List ℕ) (first : Session) (later : List Session) (parts : List (List Kept)) : Type 0 where
  pub kept : AllZip (IsKeptOf t) (first ∷ later) parts
  pub order : AllZip KeepsOrder (first ∷ later) parts
  pub found : (k : ℕ) (session : Session) → slice_get (first ∷ later) k ≡ Some session
      → session.found t ≡ (alone (first.found t) (calls_of (joined (take k parts)))).state
  pub replies : AllZip IsReplyTo (joined parts) (alone (first.found t) (calls_of (joined parts))).replies
