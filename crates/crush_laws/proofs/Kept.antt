-- The kept calls of a session, and of a history.
use Rattle.std.proofs.Common.{◌≡◌, ◌⊎◌, inl, inr, ◌<◌, ◌++◌, ℕ, zero, suc, List, [], ◌∷◌, map, slice_get, true, Option, Some, None, Contains, refl, sym, ap, subst, ◌∙◌, arith}
use Rattle.std.proofs.lemmas.List.{append-nil}
use Rattle.std.proofs.lemmas.List.Elements.{Contains-append_left, Contains-append_cases}
use Rattle.crush_map.specs.Sound.{IsEachOnce}
use Rattle.tenant_core.specs.Alone.{answered}
use Rattle.tenant_core.specs.Step.{is_of}
use Rattle.crush_server.specs.tenant_service.proofs.Ordering.{keeps_order}
use Rattle.crush_server.specs.tenant_service.specs.History.{AreInOrder, IsKeptOf, IsSoundFor, Kept, Session, calls_of, in_doubt, kept_acknowledged, kept_in_doubt}
use Rattle.crush_laws.proofs.Answered.{among_answered, is_no_503, stands}
use Rattle.crush_laws.proofs.Doubtful.{doubted, no_doubt, own_doubt}
use Rattle.crush_laws.proofs.Lists.{from_map, in_map}
use Rattle.crush_laws.specs.Sessions.{HasNoDoubtOf, IsAcknowledged, IsInDoubt, IsOfSession}
use Rattle.tenant_core.specs.tenant_messages.specs.declared.call.Call.{Call}
use Rattle.tenant_core.specs.tenant_messages.specs.declared.reply.Reply.{Reply}

abbrev with_reply : Call × Reply → Kept
with_reply p = record { call = p.0; reply = Some p.1 }

abbrev without_reply : Call → Kept
without_reply c = record { call = c; reply = None }

-- ---- each acknowledged call, and no other

acknowledged_there : (t : List ℕ) (session : Session) (place : ℕ) (c : Call) (r : Reply) → IsAcknowledged t session place c r → Contains (kept_acknowledged t session) (with_reply (c, r))
acknowledged_there t session place c r is =
    in_map with_reply (answered t session.calls session.replies) (c, r) (among_answered t session.calls session.replies place c r is.called is.replied is.own (is_no_503 r is.answered))

pub keeps_acknowledged : (t : List ℕ) (session : Session) (part : List Kept) (place : ℕ) (c : Call) (r : Reply) → IsKeptOf t session part → IsAcknowledged t session place c r → Contains part (with_reply (c, r))
keeps_acknowledged t session part place c r (inl e) is = subst (λ (l : List Kept). Contains l (with_reply (c, r))) (sym e) (acknowledged_there t session place c r is)
keeps_acknowledged t session part place c r (inr e) is =
    subst (λ (l : List Kept). Contains l (with_reply (c, r))) (sym e)
    (Contains-append_left (kept_acknowledged t session) (kept_in_doubt t session) (with_reply (c, r)) (acknowledged_there t session place c r is))

of_acknowledged : (t : List ℕ) (session : Session) (kept : Kept) → Contains (kept_acknowledged t session) kept → IsOfSession t session kept
of_acknowledged t session kept there =
    let (p, among, is) = from_map with_reply (answered t session.calls session.replies) kept there in
    let at = stands t session.calls session.replies p among in
    let acknowledged : IsAcknowledged t session at.place p.0 p.1 = record { called = at.called; replied = at.replied; own = at.own; answered = at.answered } in
    inl (at.place, p.1, subst (λ (k : Kept). IsAcknowledged t session at.place k.call p.1) is acknowledged, ap (λ (k : Kept). k.reply) (sym is))

of_doubtful : (t : List ℕ) (session : Session) (kept : Kept) → Contains (kept_in_doubt t session) kept → IsOfSession t session kept
of_doubtful t session kept there =
    let (c, among, is) = from_map without_reply (in_doubt t session) kept there in
    let at = doubted t session.doubt session.calls c among in
    let doubtful : IsInDoubt session at.place c = record { doubt = at.placed; called = at.called } in
    inr (
      at.place,
      subst (λ (k : Kept). IsInDoubt session at.place k.call) is doubtful,
      ap (λ (k : Kept). is_of t k.call) (sym is) ∙ at.own,
      ap (λ (k : Kept). k.reply) (sym is),
    )

pub keeps_no_other : (t : List ℕ) (session : Session) (part : List Kept) (kept : Kept) → IsKeptOf t session part → Contains part kept → IsOfSession t session kept
keeps_no_other t session part kept (inl e) there = of_acknowledged t session kept (subst (λ (l : List Kept). Contains l kept) e there)
keeps_no_other t session part kept (inr e) there =
    elim (Contains-append_cases (kept_acknowledged t session) (kept_in_doubt t session) kept (subst (λ (l : List Kept). Contains l kept) e there)) [
      | inl first ↦ of_acknowledged t session kept first
      | inr last ↦ of_doubtful t session kept last
    ]

-- ---- by the call in doubt

pub keeps_none : (t : List ℕ) (session : Session) (part : List Kept) → HasNoDoubtOf t session → IsKeptOf t session part → part ≡ kept_acknowledged t session
keeps_none t session part none (inl e) = e
keeps_none t session part none (inr e) =
    e ∙ (ap (λ (cs : List Call). kept_acknowledged t session ++ map without_reply cs) (no_doubt t session none) ∙ append-nil (kept_acknowledged t session))

own_kept : (t : List ℕ) (session : Session) (place : ℕ) (c : Call) → IsInDoubt session place c → is_of t c ≡ true
    → kept_acknowledged t session ++ kept_in_doubt t session ≡ kept_acknowledged t session ++ without_reply c ∷ []
own_kept t session place c is own = ap (λ (cs : List Call). kept_acknowledged t session ++ map without_reply cs) (own_doubt t session place c is own)

pub keeps_own : (t : List ℕ) (session : Session) (part : List Kept) (place : ℕ) (c : Call) → IsInDoubt session place c → is_of t c ≡ true → IsKeptOf t session part
    → (part ≡ kept_acknowledged t session) ⊎ (part ≡ kept_acknowledged t session ++ without_reply c ∷ [])
keeps_own t session part place c is own (inl e) = inl e
keeps_own t session part place c is own (inr e) = inr (e ∙ own_kept t session place c is own)

pub may_keep_own : (t : List ℕ) (session : Session) (part : List Kept) (place : ℕ) (c : Call) → IsInDoubt session place c → is_of t c ≡ true
    → (part ≡ kept_acknowledged t session) ⊎ (part ≡ kept_acknowledged t session ++ without_reply c ∷ []) → IsKeptOf t session part
may_keep_own t session part place c is own (inl e) = inl e
may_keep_own t session part place c is own (inr e) = inr (e ∙ sym (own_kept t session place c is own))

-- ---- no call twice

-- each call of the list `cs`, which is in the order of `calls`, is in `calls`
place_of : (cs calls : List Call) → AreInOrder cs calls → (j : ℕ) (c : Call) → slice_get cs j ≡ Some c → (q : ℕ) × (slice_get calls q ≡ Some c)
place_of [] calls are j c at = cc
place_of (d ∷ cs) [] are j c at = absurd are
place_of (d ∷ cs) (call ∷ calls) (inl are) zero c at = let e : d ≡ c = cc in (zero, ap (λ (x : Call). Some x) (sym are.0 ∙ e))
place_of (d ∷ cs) (call ∷ calls) (inl are) (suc j) c at = let (q, is) = place_of cs calls are.1 j c at in (suc q, is)
place_of (d ∷ cs) (call ∷ calls) (inr are) j c at = let (q, is) = place_of (d ∷ cs) calls are j c at in (suc q, is)

-- of two such calls the later one comes later there too
places_of : (cs calls : List Call) → AreInOrder cs calls → (i j : ℕ) (b c : Call) → i < j → slice_get cs i ≡ Some b → slice_get cs j ≡ Some c
    → (p : ℕ) × (q : ℕ) × (p < q) × (slice_get calls p ≡ Some b) × (slice_get calls q ≡ Some c)
places_of [] calls are i j b c lt at then = cc
places_of (d ∷ cs) [] are i j b c lt at then = absurd are
places_of (d ∷ cs) (call ∷ calls) (inl are) zero zero b c lt at then = absurd (omega arith)
places_of (d ∷ cs) (call ∷ calls) (inl are) zero (suc j) b c lt at then =
    let e : d ≡ b = cc in
    let (q, is) = place_of cs calls are.1 j c then in
    (zero, suc q, omega arith, ap (λ (x : Call). Some x) (sym are.0 ∙ e), is)
places_of (d ∷ cs) (call ∷ calls) (inl are) (suc i) zero b c lt at then = absurd (omega arith)
places_of (d ∷ cs) (call ∷ calls) (inl are) (suc i) (suc j) b c lt at then =
    let (p, q, less, is, it) = places_of cs calls are.1 i j b c (omega arith) at then in (suc p, suc q, omega (arith, less), is, it)
places_of (d ∷ cs) (call ∷ calls) (inr are) i j b c lt at then =
    let (p, q, less, is, it) = places_of (d ∷ cs) calls are i j b c lt at then in (suc p, suc q, omega (arith, less), is, it)

not_later : (cs calls : List Call) → AreInOrder cs calls → IsEachOnce calls → (c : Call) (i j : ℕ) → slice_get cs i ≡ Some c → slice_get cs j ≡ Some c → i < j → ⊥
not_later cs calls are once c i j at then lt =
    let (p, q, less, is, it) = places_of cs calls are i j c c lt at then in
    let same : p ≡ q = once c p q is it in
    omega (arith, less, same)

in_order_once : (cs calls : List Call) → AreInOrder cs calls → IsEachOnce calls → IsEachOnce cs
in_order_once cs calls are once c i j at then =
    let either : (i ≡ j) ⊎ ((i < j) ⊎ (j < i)) = grind arith in
    elim either [
      | inl same ↦ same
      | inr (inl lt) ↦ absurd (not_later cs calls are once c i j at then lt)
      | inr (inr lt) ↦ absurd (not_later cs calls are once c j i then at lt)
    ]

pub kept_once : (t : List ℕ) (session : Session) (part : List Kept) → IsSoundFor t session → IsKeptOf t session part → IsEachOnce session.calls → IsEachOnce (calls_of part)
kept_once t session part sound kept once = in_order_once (calls_of part) session.calls (keeps_order t session part sound kept) once
