-- A history has a list of kept calls that explains it.
use Rattle.std.proofs.Common.{◌≡◌, ◌⊎◌, inl, inr, ℕ, zero, suc, List, [], ◌∷◌, ◌++◌, map, take, slice_get, Option, Some, None, refl, sym, ap, subst, ◌∙◌, arith}
use Rattle.std.proofs.lemmas.List.{append-nil}
use Rattle.std.specs.List.{AllZip}
use Rattle.tenant_core.specs.Alone.{alone, answered}
use Rattle.tenant_core.specs.Step.{step}
use Rattle.tenant_service.proofs.Ordering.{calls_acknowledged, calls_doubtful, calls_of-append, calls_of_both, keeps_order}
use Rattle.tenant_service.specs.History.{Explains, IsHistoryFor, IsKeptOf, IsReplyTo, IsSoundFor, Kept, MayLeave, Session, calls_of, in_doubt, joined, kept_acknowledged, kept_in_doubt}
use Rattle.tenant_core.specs.tenant_messages.specs.declared.call.Call.{Call}
use Rattle.tenant_core.specs.tenant_messages.specs.declared.reply.Reply.{Reply}
use Rattle.tenant_core.specs.tenant_state.specs.State.{TenantState}

-- ---- two lists of calls, one after the other

pub alone-replies : (s : Option TenantState) (cs ds : List Call) → (alone s (cs ++ ds)).replies ≡ (alone s cs).replies ++ (alone (alone s cs).state ds).replies
alone-replies s [] ds = refl
alone-replies s (c ∷ cs) ds = ap (λ rs. (step c s).reply ∷ rs) (alone-replies (step c s).state cs ds)

pub alone-state : (s : Option TenantState) (cs ds : List Call) → (alone s (cs ++ ds)).state ≡ (alone (alone s cs).state ds).state
alone-state s [] ds = refl
alone-state s (c ∷ cs) ds = alone-state (step c s).state cs ds

all_zip-append : {A B : Type 0} (R : A → B → Type 0) (xs zs : List A) (ys ws : List B) → AllZip R xs ys → AllZip R zs ws → AllZip R (xs ++ zs) (ys ++ ws)
all_zip-append R [] zs [] ws h k = k
all_zip-append R [] zs (y ∷ ys) ws h k = absurd h
all_zip-append R (x ∷ xs) zs [] ws h k = absurd h
all_zip-append R (x ∷ xs) zs (y ∷ ys) ws h k = (h.0, all_zip-append R xs zs ys ws h.1 k)

-- ---- the part of one session

replies_acknowledged : (ps : List (Call × Reply)) → AllZip IsReplyTo (map (λ (p : Call × Reply). record { call = p.0; reply = Some p.1 }) ps) (map (λ (p : Call × Reply). p.1) ps)
replies_acknowledged [] = tt
replies_acknowledged (p ∷ ps) = (λ r e. let same : p.1 ≡ r = cc in sym same, replies_acknowledged ps)

replies_doubtful : (s : Option TenantState) (cs : List Call) → AllZip IsReplyTo (map (λ (c : Call). record { call = c; reply = None }) cs) (alone s cs).replies
replies_doubtful s [] = tt
replies_doubtful s (c ∷ cs) = (λ r e. cc, replies_doubtful (step c s).state cs)

-- the acknowledgements are the definition's replies
acknowledged_replies : (t : List ℕ) (session : Session) → IsSoundFor t session
    → AllZip IsReplyTo (kept_acknowledged t session) (alone (session.found t) (calls_of (kept_acknowledged t session))).replies
acknowledged_replies t session sound =
    let ps = answered t session.calls session.replies in
    let given : map (λ (p : Call × Reply). p.1) ps ≡ (alone (session.found t) (map (λ (p : Call × Reply). p.0) ps)).replies = sound.replies in
    subst (λ cs. AllZip IsReplyTo (kept_acknowledged t session) (alone (session.found t) cs).replies) (sym (calls_acknowledged ps))
    (subst (λ rs. AllZip IsReplyTo (kept_acknowledged t session) rs) given (replies_acknowledged ps))

part_replies : (t : List ℕ) (session : Session) (part : List Kept) → IsSoundFor t session → IsKeptOf t session part
    → AllZip IsReplyTo part (alone (session.found t) (calls_of part)).replies
part_replies t session part sound (inl e) = subst (λ part. AllZip IsReplyTo part (alone (session.found t) (calls_of part)).replies) (sym e) (acknowledged_replies t session sound)
part_replies t session part sound (inr e) =
    let one = kept_acknowledged t session in
    let two = kept_in_doubt t session in
    let s = session.found t in
    let calls : calls_of (one ++ two) ≡ calls_of one ++ in_doubt t session = calls_of-append one two ∙ ap (λ cs. calls_of one ++ cs) (calls_doubtful (in_doubt t session)) in
    let both = all_zip-append IsReplyTo one two (alone s (calls_of one)).replies (alone (alone s (calls_of one)).state (in_doubt t session)).replies
    (acknowledged_replies t session sound) (replies_doubtful (alone s (calls_of one)).state (in_doubt t session)) in
    subst (λ part. AllZip IsReplyTo part (alone s (calls_of part)).replies) (sym e)
    (subst (λ cs. AllZip IsReplyTo (one ++ two) (alone s cs).replies) (sym calls)
    (subst (λ rs. AllZip IsReplyTo (one ++ two) rs) (sym (alone-replies s (calls_of one) (in_doubt t session))) both))

-- a part that leaves a state which the session may leave
record Leaving (t : List ℕ) (session : Session) (s : Option TenantState) : Type 0 where
  pub part : List Kept
  pub is : IsKeptOf t session part
  pub leaves : s ≡ (alone (session.found t) (calls_of part)).state

leaving : (t : List ℕ) (session : Session) (s : Option TenantState) → MayLeave t session s → Leaving t session s
leaving t session s (inl e) = record {
  part = kept_acknowledged t session;
  is = inl refl;
  leaves = e ∙ ap (λ cs. (alone (session.found t) cs).state) (sym (calls_acknowledged (answered t session.calls session.replies)));
}
leaving t session s (inr e) = record {
  part = kept_acknowledged t session ++ kept_in_doubt t session;
  is = inr refl;
  leaves = e ∙ ap (λ cs. (alone (session.found t) cs).state) (sym (calls_of_both t session));
}

-- ---- all sessions

found_first : (t : List ℕ) (first : Session) (later : List Session) (parts : List (List Kept)) (session : Session) → slice_get (first ∷ later) zero ≡ Some session
    → session.found t ≡ (alone (first.found t) (calls_of (joined (take zero parts)))).state
found_first t first later parts session e = let same : first ≡ session = cc in ap (λ (s : Session). s.found t) (sym same)

prepended : (t : List ℕ) (first next : Session) (later : List Session) (part : List Kept) (parts : List (List Kept)) → IsSoundFor t first → IsKeptOf t first part
    → next.found t ≡ (alone (first.found t) (calls_of part)).state → Explains t next later parts → Explains t first (next ∷ later) (part ∷ parts)
prepended t first next later part parts sound is leaves rest = record {
  kept = (is, rest.kept);
  order = (keeps_order t first part sound is, rest.order);
  found = at;
  replies =
      let s = first.found t in
      let more = subst (λ (u : Option TenantState). AllZip IsReplyTo (joined parts) (alone u (calls_of (joined parts))).replies) leaves rest.replies in
      let both = all_zip-append IsReplyTo part (joined parts) (alone s (calls_of part)).replies (alone (alone s (calls_of part)).state (calls_of (joined parts))).replies
      (part_replies t first part sound is) more in
      subst (λ cs. AllZip IsReplyTo (part ++ joined parts) (alone s cs).replies) (sym (calls_of-append part (joined parts)))
      (subst (λ rs. AllZip IsReplyTo (part ++ joined parts) rs) (sym (alone-replies s (calls_of part) (calls_of (joined parts)))) both);
}
  where
    at : (k : ℕ) (session : Session) → slice_get (first ∷ next ∷ later) k ≡ Some session
        → session.found t ≡ (alone (first.found t) (calls_of (joined (take k (part ∷ parts))))).state
    at zero session e = found_first t first (next ∷ later) (part ∷ parts) session e
    at (suc k) session e =
        let before = joined (take k parts) in
        rest.found k session e
        ∙ ap (λ (u : Option TenantState). (alone u (calls_of before)).state) leaves
        ∙ sym (alone-state (first.found t) (calls_of part) (calls_of before))
        ∙ ap (λ cs. (alone (first.found t) cs).state) (sym (calls_of-append part before))

pub explained : (t : List ℕ) (first : Session) (later : List Session) → IsHistoryFor t first later → (parts : List (List Kept)) × Explains t first later parts
explained t first [] h =
    let part = kept_acknowledged t first in
    let sound : IsSoundFor t first = h.sound zero first (omega arith) in (
      part ∷ [],
      record {
        kept = (inl refl, tt);
        order = (keeps_order t first part sound (inl refl), tt);
        found = only;
        replies = subst (λ (ks : List Kept). AllZip IsReplyTo ks (alone (first.found t) (calls_of ks)).replies) (sym (append-nil part)) (acknowledged_replies t first sound);
      },
    )
  where
    only : (k : ℕ) (session : Session) → slice_get (first ∷ []) k ≡ Some session
        → session.found t ≡ (alone (first.found t) (calls_of (joined (take k (kept_acknowledged t first ∷ []))))).state
    only zero session e = found_first t first [] (kept_acknowledged t first ∷ []) session e
    only (suc k) session e = cc
explained t first (next ∷ later) h =
    let sound : IsSoundFor t first = h.sound zero first (omega arith) in
    let left = leaving t first (next.found t) h.linked.0 in
    let rest = explained t next later (record { sound = λ k d lt. h.sound (suc k) d (omega arith); linked = h.linked.1 }) in
    (left.part ∷ rest.0, prepended t first next later left.part rest.0 sound left.is left.leaves rest.1)
