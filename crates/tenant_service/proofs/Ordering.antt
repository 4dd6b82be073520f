-- The kept calls of a session are in the order of its calls.
use Rattle.std.proofs.Common.{◌≡◌, ◌⊎◌, inl, inr, ◌<◌, ◌&&◌, ℕ, zero, suc, List, [], ◌∷◌, ◌++◌, map, filter, take, drop, Bool, true, false, cond, Option, Some, None, refl, sym, ap, subst, ◌∙◌, arith}
use Rattle.std.proofs.lemmas.List.{append-nil, map-append}
use Rattle.std.specs.List.{All}
use Rattle.tenant_core.specs.Alone.{answered, is_answered}
use Rattle.tenant_core.specs.Step.{is_of}
use Rattle.tenant_service.specs.History.{AreInOrder, IsKeptOf, IsSilentFrom, IsSoundFor, Kept, KeepsOrder, Session, acknowledged, at_doubt, calls_of, in_doubt, kept_acknowledged, kept_in_doubt}
use Rattle.tenant_core.specs.tenant_messages.specs.declared.call.Call.{Call}
use Rattle.tenant_core.specs.tenant_messages.specs.declared.reply.Reply.{Reply}

-- ---- the calls of a list of kept calls

pub calls_of-append : (xs ys : List Kept) → calls_of (xs ++ ys) ≡ calls_of xs ++ calls_of ys
calls_of-append xs ys = map-append (λ (k : Kept). k.call) xs ys

pub calls_acknowledged : (ps : List (Call × Reply)) → calls_of (map (λ (p : Call × Reply). record { call = p.0; reply = Some p.1 }) ps) ≡ map (λ (p : Call × Reply). p.0) ps
calls_acknowledged [] = refl
calls_acknowledged (p ∷ ps) = ap (λ cs. p.0 ∷ cs) (calls_acknowledged ps)

pub calls_doubtful : (cs : List Call) → calls_of (map (λ (c : Call). record { call = c; reply = None }) cs) ≡ cs
calls_doubtful [] = refl
calls_doubtful (c ∷ cs) = ap (λ ds. c ∷ ds) (calls_doubtful cs)

-- with the call in doubt
pub calls_of_both : (t : List ℕ) (session : Session) → calls_of (kept_acknowledged t session ++ kept_in_doubt t session) ≡ acknowledged t session ++ in_doubt t session
calls_of_both t session =
    calls_of-append (kept_acknowledged t session) (kept_in_doubt t session) ∙ ap (λ cs. cs ++ calls_of (kept_in_doubt t session)) (calls_acknowledged (answered t session.calls session.replies))
    ∙ ap (λ cs. acknowledged t session ++ cs) (calls_doubtful (in_doubt t session))

-- ---- in order

-- one more call in front of the others
in_front : (cs calls : List Call) (c : Call) → AreInOrder cs calls → AreInOrder cs (c ∷ calls)
in_front [] calls c h = tt
in_front (d ∷ cs) calls c h = inr h

abbrev kept_calls : List ℕ → List Call → List Reply → List Call
kept_calls t calls replies = map (λ (p : Call × Reply). p.0) (answered t calls replies)

-- where no reply is an acknowledgement, none of the calls is acknowledged
none_kept_at : (own : Bool) (c : Call) (r : Reply) (ps : List (Call × Reply)) → is_answered r ≡ false → ps ≡ [] → cond {A = List (Call × Reply)} (own && is_answered r) ((c, r) ∷ ps) ps ≡ []
none_kept_at true c r ps gone none = ap (λ b. cond {A = List (Call × Reply)} b ((c, r) ∷ ps) ps) gone ∙ none
none_kept_at false c r ps gone none = none

none_kept : (t : List ℕ) (calls : List Call) (replies : List Reply) → All (λ reply. is_answered reply ≡ false) replies → answered t calls replies ≡ []
none_kept t [] replies silent = refl
none_kept t (c ∷ calls) [] silent = refl
none_kept t (c ∷ calls) (r ∷ replies) silent =
    none_kept_at (is_of t c) c r (answered t calls replies) (silent zero r (omega arith)) (none_kept t calls replies (λ k d lt. silent (suc k) d (omega arith)))

-- one call, if it is the tenant's
own_call : (own : Bool) (c : Call) (calls : List Call) → AreInOrder (cond own (c ∷ []) []) (c ∷ calls)
own_call true c calls = inl (refl, tt)
own_call false c calls = tt

first_own : (t : List ℕ) (calls : List Call) → AreInOrder (filter (is_of t) (take 1 calls)) calls
first_own t [] = tt
first_own t (c ∷ calls) = own_call (is_of t c) c calls

-- one more call, acknowledged or not
counted_in_order : (b : Bool) (c : Call) (r : Reply) (ps : List (Call × Reply)) (more calls : List Call) → AreInOrder (map (λ (p : Call × Reply). p.0) ps ++ more) calls
    → AreInOrder (map (λ (p : Call × Reply). p.0) (cond b ((c, r) ∷ ps) ps) ++ more) (c ∷ calls)
counted_in_order true c r ps more calls h = inl (refl, h)
counted_in_order false c r ps more calls h = in_front (map (λ (p : Call × Reply). p.0) ps ++ more) calls c h

no_replies : (place : ℕ) → All (λ (reply : Reply). is_answered reply ≡ false) (drop place [])
no_replies zero k d lt = absurd (omega arith)
no_replies (suc place) k d lt = absurd (omega arith)

-- the acknowledged calls, and then one of the tenant behind them
then_doubt : (t : List ℕ) (place : ℕ) (calls : List Call) (replies : List Reply) → All (λ reply. is_answered reply ≡ false) (drop place replies)
    → AreInOrder (kept_calls t calls replies ++ filter (is_of t) (take 1 (drop place calls))) calls
then_doubt t zero calls replies silent =
    subst (λ (ps : List (Call × Reply)). AreInOrder (map (λ (p : Call × Reply). p.0) ps ++ filter (is_of t) (take 1 calls)) calls) (sym (none_kept t calls replies silent)) (first_own t calls)
then_doubt t (suc place) [] replies silent = tt
then_doubt t (suc place) (c ∷ calls) [] silent =
    let last = filter (is_of t) (take 1 (drop place calls)) in
    in_front last calls c
    (subst (λ (ps : List (Call × Reply)). AreInOrder (map (λ (p : Call × Reply). p.0) ps ++ last) calls) (none_kept t calls [] (no_replies zero)) (then_doubt t place calls [] (no_replies place)))
then_doubt t (suc place) (c ∷ calls) (r ∷ replies) silent =
    counted_in_order (is_of t c && is_answered r) c r (answered t calls replies) (filter (is_of t) (take 1 (drop place calls))) calls (then_doubt t place calls replies silent)

no_doubt : (t : List ℕ) (calls : List Call) (replies : List Reply) → AreInOrder (kept_calls t calls replies ++ []) calls
no_doubt t [] replies = tt
no_doubt t (c ∷ calls) [] = tt
no_doubt t (c ∷ calls) (r ∷ replies) = counted_in_order (is_of t c && is_answered r) c r (answered t calls replies) [] calls (no_doubt t calls replies)

doubt_in_order : (t : List ℕ) (doubt : Option ℕ) (calls : List Call) (replies : List Reply) → IsSilentFrom doubt replies
    → AreInOrder (kept_calls t calls replies ++ filter (is_of t) (at_doubt doubt calls)) calls
doubt_in_order t None calls replies silent = no_doubt t calls replies
doubt_in_order t (Some place) calls replies silent = then_doubt t place calls replies silent.1

pub keeps_order : (t : List ℕ) (session : Session) (part : List Kept) → IsSoundFor t session → IsKeptOf t session part → KeepsOrder session part
keeps_order t session part sound (inl e) =
    let calls : calls_of part ≡ acknowledged t session = ap calls_of e ∙ calls_acknowledged (answered t session.calls session.replies) in
    subst (λ cs. AreInOrder cs session.calls) (sym (calls ∙ sym (append-nil (acknowledged t session)))) (no_doubt t session.calls session.replies)
keeps_order t session part sound (inr e) =
    subst (λ cs. AreInOrder cs session.calls) (sym (ap calls_of e ∙ calls_of_both t session)) (doubt_in_order t session.doubt session.calls session.replies sound.silent)
