-- The call in doubt, and the states that it may leave.
use Rattle.std.proofs.Common.{◌≡◌, ◌⊎◌, inl, inr, ◌<◌, ◌++◌, ℕ, zero, suc, List, [], ◌∷◌, map, filter, take, drop, slice_get, Bool, true, false, cond, Option, Some, None, Contains, refl, sym, ap, subst, ◌∙◌, arith}
use Rattle.std.proofs.lemmas.List.{append-nil}
use Rattle.std.proofs.lemmas.Option.{slice_get_within}
use Rattle.std.specs.List.{All}
use Rattle.tenant_core.specs.Alone.{alone, answered}
use Rattle.tenant_core.specs.Step.{is_of, step}
use Rattle.crush_server.specs.tenant_service.proofs.Explaining.{alone-state}
use Rattle.crush_server.specs.tenant_service.specs.History.{IsLinkedFor, MayLeave, Session, acknowledged, at_doubt, in_doubt}
use Rattle.crush_laws.proofs.Answered.{none_answered}
use Rattle.crush_laws.proofs.Lists.{all_at, front_or_past, none_in}
use Rattle.crush_laws.specs.Sessions.{HasNoDoubtOf, IsInDoubt, after_acknowledged}
use Rattle.tenant_core.specs.tenant_messages.specs.declared.call.Call.{Call}
use Rattle.tenant_core.specs.tenant_messages.specs.declared.reply.Reply.{Reply}
use Rattle.tenant_core.specs.tenant_state.specs.State.{TenantState}

-- ---- the call at a place

one_at : (place : ℕ) (calls : List Call) (c : Call) → slice_get calls place ≡ Some c → take 1 (drop place calls) ≡ c ∷ []
one_at place [] c at = cc
one_at zero (call ∷ calls) c at = let e : call ≡ c = cc in ap (λ (d : Call). d ∷ []) e
one_at (suc place) (call ∷ calls) c at = one_at place calls c at

none_at : (t : List ℕ) (place : ℕ) (calls : List Call) → ((c : Call) → slice_get calls place ≡ Some c → is_of t c ≡ false) → filter (is_of t) (take 1 (drop place calls)) ≡ []
none_at t zero [] other = refl
none_at t (suc place) [] other = refl
none_at t zero (call ∷ calls) other = ap (λ b. cond {A = List Call} b (call ∷ []) []) (other call refl)
none_at t (suc place) (call ∷ calls) other = none_at t place calls other

none_in_doubt : (t : List ℕ) (doubt : Option ℕ) (calls : List Call) → ((place : ℕ) (c : Call) → doubt ≡ Some place → slice_get calls place ≡ Some c → is_of t c ≡ false)
    → filter (is_of t) (at_doubt doubt calls) ≡ []
none_in_doubt t None calls other = refl
none_in_doubt t (Some place) calls other = none_at t place calls (λ c at. other place c refl at)

pub no_doubt : (t : List ℕ) (session : Session) → HasNoDoubtOf t session → in_doubt t session ≡ []
no_doubt t session none = none_in_doubt t session.doubt session.calls (λ place c doubt called. none place c (record { doubt = doubt; called = called }))

pub own_doubt : (t : List ℕ) (session : Session) (place : ℕ) (c : Call) → IsInDoubt session place c → is_of t c ≡ true → in_doubt t session ≡ c ∷ []
own_doubt t session place c is own =
    ap (λ (d : Option ℕ). filter (is_of t) (at_doubt d session.calls)) is.doubt ∙ (ap (filter (is_of t)) (one_at place session.calls c is.called)
    ∙ ap (λ b. cond {A = List Call} b (c ∷ []) []) own)

pub record Doubted (t : List ℕ) (doubt : Option ℕ) (calls : List Call) (c : Call) : Type 0 where
  pub place : ℕ
  pub placed : doubt ≡ Some place
  pub called : slice_get calls place ≡ Some c
  pub own : is_of t c ≡ true

from_place : (t : List ℕ) (place : ℕ) (calls : List Call) (c : Call) → Contains (filter (is_of t) (take 1 (drop place calls))) c → (slice_get calls place ≡ Some c) × (is_of t c ≡ true)
from_place t zero [] c there = absurd (none_in c there)
from_place t (suc place) [] c there = absurd (none_in c there)
from_place t zero (call ∷ calls) c there = elim (front_or_past (is_of t call) call [] c there) [
  | inl here ↦ (ap (λ (d : Call). Some d) here.1, ap (is_of t) (sym here.1) ∙ here.0)
  | inr later ↦ absurd (none_in c later)
]
from_place t (suc place) (call ∷ calls) c there = from_place t place calls c there

pub doubted : (t : List ℕ) (doubt : Option ℕ) (calls : List Call) (c : Call) → Contains (filter (is_of t) (at_doubt doubt calls)) c → Doubted t doubt calls c
doubted t None calls c there = absurd (none_in c there)
doubted t (Some place) calls c there = let is = from_place t place calls c there in record { place = place; placed = refl; called = is.0; own = is.1 }

-- ---- what may be left

same_after : (s : Option TenantState) (cs ds es : List Call) → ds ≡ es → (alone s (cs ++ ds)).state ≡ (alone (alone s cs).state es).state
same_after s cs ds es e = alone-state s cs ds ∙ ap (λ (xs : List Call). (alone (alone s cs).state xs).state) e

pub leaves_acknowledged : (t : List ℕ) (session : Session) (state : Option TenantState) → HasNoDoubtOf t session → MayLeave t session state → state ≡ after_acknowledged t session
leaves_acknowledged t session state none (inl e) = e
leaves_acknowledged t session state none (inr e) = e ∙ same_after (session.found t) (acknowledged t session) (in_doubt t session) [] (no_doubt t session none)

pub leaves_one_more : (t : List ℕ) (session : Session) (place : ℕ) (c : Call) (state : Option TenantState) → IsInDoubt session place c → is_of t c ≡ true → MayLeave t session state
    → (state ≡ after_acknowledged t session) ⊎ (state ≡ (step c (after_acknowledged t session)).state)
leaves_one_more t session place c state is own (inl e) = inl e
leaves_one_more t session place c state is own (inr e) = inr (e ∙ same_after (session.found t) (acknowledged t session) (in_doubt t session) (c ∷ []) (own_doubt t session place c is own))

pub may_leave_one_more : (t : List ℕ) (session : Session) (place : ℕ) (c : Call) (state : Option TenantState) → IsInDoubt session place c → is_of t c ≡ true
    → (state ≡ after_acknowledged t session) ⊎ (state ≡ (step c (after_acknowledged t session)).state) → MayLeave t session state
may_leave_one_more t session place c state is own (inl e) = inl e
may_leave_one_more t session place c state is own (inr e) = inr (e ∙ sym (same_after (session.found t) (acknowledged t session) (in_doubt t session) (c ∷ []) (own_doubt t session place c is own)))

-- the state of a tenant that isn't called is unchanged
pub leaves_uncalled : (t : List ℕ) (session : Session) (state : Option TenantState) → All (λ c. is_of t c ≡ false) session.calls → MayLeave t session state → state ≡ session.found t
leaves_uncalled t session state none leaves =
    leaves_acknowledged t session state (λ place c is. all_at (λ (d : Call). is_of t d ≡ false) session.calls place c none is.called) leaves
    ∙ ap (λ (ps : List (Call × Reply)). (alone (session.found t) (map (λ (p : Call × Reply). p.0) ps)).state) (none_answered t session.calls session.replies none)

-- ---- one session after another

pub linked_at : (t : List ℕ) (first : Session) (later : List Session) (k : ℕ) (session next : Session) → IsLinkedFor t first later → slice_get (first ∷ later) k ≡ Some session
    → slice_get (first ∷ later) (suc k) ≡ Some next → MayLeave t session (next.found t)
linked_at t first [] k session next linked at after = cc
linked_at t first (second ∷ later) zero session next linked at after =
    let e : first ≡ session = cc in
    let f : second ≡ next = cc in
    subst (λ (s : Session). MayLeave t s (next.found t)) e (subst (λ (s : Session). MayLeave t first (s.found t)) f linked.0)
linked_at t first (second ∷ later) (suc k) session next linked at after = linked_at t second later k session next linked.1 at after
