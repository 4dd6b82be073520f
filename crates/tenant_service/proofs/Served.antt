-- A session that goes on by one call, and the states that it then leaves.
use Rattle.std.proofs.Common.{◌≡◌, ◌⊎◌, inl, inr, ◌==◌, ◌&&◌, ◌+◌, ◌<◌, ◌≤◌, ℕ, zero, suc, List, [], ◌∷◌, ◌++◌, map, filter, zip, length, take, drop, Bool, true, false, not, cond, Option, Some, None, is_some, option_map, refl, sym, ap, subst, ◌∙◌, arith, append_assoc, length-append}
use Rattle.std.proofs.lemmas.List.{append-nil, map-append}
use Rattle.std.proofs.lemmas.List.Elements.{filter-append, All-append}
use Rattle.std.specs.List.{All}
use Rattle.tenant_core.proofs.Replying.{status-unavailable}
use Rattle.tenant_core.specs.Alone.{alone, answered, calls_answered, is_answered, replies_answered}
use Rattle.tenant_core.specs.States.{Damaged, Found, HasState, LeavesStep, MeetsDefinition, Outcomes, Shows, States}
use Rattle.tenant_core.specs.Step.{is_of, step}
use Rattle.tenant_core.specs.StoreReply.{IsUnavailable}
use Rattle.tenant_service.proofs.Explaining.{alone-replies, alone-state}
use Rattle.tenant_service.specs.History.{IsHistoryFor, IsSilentFrom, IsSoundFor, MayLeave, at_doubt, in_doubt}
use Rattle.tenant_service.specs.Private.{LeavesSoFar, doubt_after}
use Rattle.tenant_service.specs.Served.{IsSession, IsSound, LeavesSession, session}
use Rattle.tenant_core.specs.tenant_messages.specs.declared.call.Call.{Call}
use Rattle.tenant_core.specs.tenant_messages.specs.declared.reply.Reply.{Reply}
use Rattle.tenant_core.specs.tenant_state.specs.State.{TenantState}

-- ---- lists

zip-append : {A B : Type 0} (xs zs : List A) (ys ws : List B) → length ys ≡ length xs → zip (xs ++ zs) (ys ++ ws) ≡ zip xs ys ++ zip zs ws
zip-append [] zs [] ws h = refl
zip-append [] zs (y ∷ ys) ws h = absurd (omega arith)
zip-append (x ∷ xs) zs [] ws h = absurd (omega arith)
zip-append (x ∷ xs) zs (y ∷ ys) ws h = ap (λ ps. (x, y) ∷ ps) (zip-append xs zs ys ws (omega arith))

drop_within : {A : Type 0} (xs ys : List A) (n : ℕ) → n ≤ length xs → drop n (xs ++ ys) ≡ drop n xs ++ ys
drop_within xs ys zero h = refl
drop_within [] ys (suc n) h = absurd (omega arith)
drop_within (x ∷ xs) ys (suc n) h = drop_within xs ys n (omega arith)

one_within : {A : Type 0} (xs ys : List A) (n : ℕ) → n < length xs → take 1 (drop n (xs ++ ys)) ≡ take 1 (drop n xs)
one_within [] ys n h = absurd (omega arith)
one_within (x ∷ xs) ys zero h = refl
one_within (x ∷ xs) ys (suc n) h = one_within xs ys n (omega arith)

drop_past : {A : Type 0} (xs ys : List A) (n : ℕ) → drop (length xs + n) (xs ++ ys) ≡ drop n ys
drop_past {A = A} [] ys n = let e : length {A = A} [] + n ≡ n = omega arith in ap (λ m. drop m ys) e
drop_past (x ∷ xs) ys n = let e : length (x ∷ xs) + n ≡ suc (length xs + n) = omega arith in ap (λ m. drop m (x ∷ (xs ++ ys))) e ∙ drop_past xs ys n

one_last : {A : Type 0} (xs : List A) (x : A) → take 1 (drop (length xs) (xs ++ x ∷ [])) ≡ x ∷ []
one_last [] x = refl
one_last (y ∷ ys) x = one_last ys x

none_left : {A : Type 0} (xs : List A) → drop (length xs) xs ≡ []
none_left [] = refl
none_left (x ∷ xs) = none_left xs

all_one : (P : Reply → Type 0) (r : Reply) → P r → All P (r ∷ [])
all_one P r h zero d lt = h
all_one P r h (suc k) d lt = absurd (omega arith)

-- ---- the acknowledged calls of two lists, one after the other

answered-append : (t : List ℕ) (cs ds : List Call) (rs qs : List Reply) → length rs ≡ length cs → answered t (cs ++ ds) (rs ++ qs) ≡ answered t cs rs ++ answered t ds qs
answered-append t cs ds rs qs count =
    let test = λ (p : Call × Reply). is_of t p.0 && is_answered p.1 in ap (filter test) (zip-append cs ds rs qs count) ∙ filter-append test (zip cs rs) (zip ds qs)

calls-append : (t : List ℕ) (cs ds : List Call) (rs qs : List Reply) → length rs ≡ length cs → calls_answered t (cs ++ ds) (rs ++ qs) ≡ calls_answered t cs rs ++ calls_answered t ds qs
calls-append t cs ds rs qs count =
    ap (map (λ (p : Call × Reply). p.0)) (answered-append t cs ds rs qs count) ∙ map-append (λ (p : Call × Reply). p.0) (answered t cs rs) (answered t ds qs)

replies-append : (t : List ℕ) (cs ds : List Call) (rs qs : List Reply) → length rs ≡ length cs → replies_answered t (cs ++ ds) (rs ++ qs) ≡ replies_answered t cs rs ++ replies_answered t ds qs
replies-append t cs ds rs qs count =
    ap (map (λ (p : Call × Reply). p.1)) (answered-append t cs ds rs qs count) ∙ map-append (λ (p : Call × Reply). p.1) (answered t cs rs) (answered t ds qs)

-- ---- a call that is answered 503

pub no_answer : (r : Reply) → IsUnavailable r → is_answered r ≡ false
no_answer r gone = ap (λ n. not (n == 503)) (status-unavailable r gone)

not_counted : (own : Bool) (c : Call) (r : Reply) → IsUnavailable r → cond {A = List (Call × Reply)} (own && is_answered r) ((c, r) ∷ []) [] ≡ []
not_counted true c r gone = ap (λ b. cond {A = List (Call × Reply)} b ((c, r) ∷ []) []) (no_answer r gone)
not_counted false c r gone = refl

same_answered : (t : List ℕ) (cs : List Call) (rs : List Reply) (c : Call) (r : Reply) → length rs ≡ length cs → IsUnavailable r
    → answered t (cs ++ c ∷ []) (rs ++ r ∷ []) ≡ answered t cs rs
same_answered t cs rs c r count gone =
    answered-append t cs (c ∷ []) rs (r ∷ []) count ∙ ap (λ ps. answered t cs rs ++ ps) (not_counted (is_of t c) c r gone) ∙ append-nil (answered t cs rs)

-- a call that is answered 503 adds no acknowledged call
same_calls : (t : List ℕ) (cs : List Call) (rs : List Reply) (c : Call) (r : Reply) → length rs ≡ length cs → IsUnavailable r
    → calls_answered t (cs ++ c ∷ []) (rs ++ r ∷ []) ≡ calls_answered t cs rs
same_calls t cs rs c r count gone = ap (map (λ (p : Call × Reply). p.0)) (same_answered t cs rs c r count gone)

-- ---- what a session leaves

-- a name has one state at most
abbrev HasOneState : States → Type 0
HasOneState states = (t : List ℕ) (s u : Option TenantState) → states t s → states t u → s ≡ u

-- where a name has a state and no other, nothing else is shown of it
shown : (states : States) (t : List ℕ) (s : Option TenantState) (found : Found) → HasOneState states → states t s → Shows states t found → found ≡ HasState s
shown states t s Damaged one has bad = absurd (bad s has)
shown states t s (HasState u) one has is = ap HasState (one t u s is has)

-- a service whose store isn't latched leaves what it shows
pub leaves_open : (old new : States) (left : Outcomes) (cs : List Call) (rs : List Reply) (doubt : Option ℕ) → MeetsDefinition false old new cs rs → HasOneState new
    → ((t : List ℕ) (found : Found) → left t found → Shows new t found) → LeavesSession old left cs rs doubt
leaves_open old new left cs rs doubt meets one settled found t next has there =
    let last = (alone (found t) (calls_answered t cs rs)).state in (last, shown new t last next one (meets.leaves refl t (found t) has) (settled t next there), inl refl)

-- the call that latched it is in doubt
pub leaves_latched : (old mid : States) (left : Outcomes) (cs : List Call) (rs : List Reply) (c : Call) (r : Reply) → MeetsDefinition false old mid cs rs → HasOneState mid
    → IsUnavailable r → LeavesStep c mid left → LeavesSession old left (cs ++ c ∷ []) (rs ++ r ∷ []) (Some (length rs))
leaves_latched old mid left cs rs c r meets one gone leaves found t next has there =
    let s = found t in
    let calls = calls_answered t cs rs in
    let between = (alone s calls).state in
    let known = meets.leaves refl t s has in
    let kept = same_calls t cs rs c r meets.count gone in
    let whole = session found (cs ++ c ∷ []) (rs ++ r ∷ []) (Some (length rs)) in
    elim (leaves t next there) [
      | inl as_before ↦ (between, shown mid t between next one known as_before, inl (ap (λ ds. (alone s ds).state) (sym kept)))
      | inr done ↦
          let same : done.1 ≡ between = one t done.1 between done.2 known in
          let doubtful : in_doubt t whole ≡ c ∷ [] =
          ap (λ n. filter (is_of t) (take 1 (drop n (cs ++ c ∷ [])))) meets.count ∙ ap (filter (is_of t)) (one_last cs c) ∙ ap (λ b. cond b (c ∷ []) []) done.0 in
          let both : (step c between).state ≡ (alone s (calls_answered t (cs ++ c ∷ []) (rs ++ r ∷ []) ++ in_doubt t whole)).state =
          sym (alone-state s calls (c ∷ [])) ∙ ap (λ ds. (alone s (ds ++ c ∷ [])).state) (sym kept)
          ∙ ap (λ ds. (alone s (calls_answered t (cs ++ c ∷ []) (rs ++ r ∷ []) ++ ds)).state) (sym doubtful) in
          ((step c between).state, done.3 ∙ ap (λ u. HasState (step c u).state) same, inr both)
    ]

-- the calls behind it, all answered 503, change nothing
pub leaves_shut : (old : States) (left after : Outcomes) (cs : List Call) (rs : List Reply) (c : Call) (r : Reply) (place : ℕ) → length rs ≡ length cs → place < length rs
    → IsUnavailable r → ((t : List ℕ) (found : Found) → after t found → left t found) → LeavesSession old left cs rs (Some place)
    → LeavesSession old after (cs ++ c ∷ []) (rs ++ r ∷ []) (Some place)
leaves_shut old left after cs rs c r place count within gone rests leaves found t next has there =
    let s = found t in
    let kept = same_calls t cs rs c r count gone in
    let before = leaves found t next has (rests t next there) in
    let inside : place < length cs = omega arith in
    let doubtful : take 1 (drop place (cs ++ c ∷ [])) ≡ take 1 (drop place cs) = one_within cs (c ∷ []) place inside in (
      before.0,
      before.1,
      subst (λ ds. (before.0 ≡ (alone s ds).state) ⊎ (before.0 ≡ (alone s (ds ++ filter (is_of t) (take 1 (drop place (cs ++ c ∷ []))))).state)) (sym kept)
          (subst (λ ds. (before.0 ≡ (alone s (calls_answered t cs rs)).state) ⊎ (before.0 ≡ (alone s (calls_answered t cs rs ++ filter (is_of t) ds)).state)) (sym doubtful) before.2),
    )

-- ---- silence

silent_more : (rs : List Reply) (r : Reply) (place : ℕ) → IsSilentFrom (Some place) rs → IsUnavailable r → IsSilentFrom (Some place) (rs ++ r ∷ [])
silent_more rs r place h gone = (
  omega (arith, h.0, length-append rs (r ∷ [])),
  subst (λ qs. All (λ q. is_answered q ≡ false) qs) (sym (drop_within rs (r ∷ []) place (omega (arith, h.0))))
      (All-append (λ q. is_answered q ≡ false) (drop place rs) (r ∷ []) h.1 (all_one (λ q. is_answered q ≡ false) r (no_answer r gone))),
)

silent_first : (rs : List Reply) (r : Reply) → IsUnavailable r → IsSilentFrom (Some (length rs)) (rs ++ r ∷ [])
silent_first rs r gone = (
  omega (arith, length-append rs (r ∷ [])),
  subst (λ qs. All (λ q. is_answered q ≡ false) qs) (sym (drop_within rs (r ∷ []) (length rs) (omega arith) ∙ ap (λ qs. qs ++ r ∷ []) (none_left rs)))
      (all_one (λ q. is_answered q ≡ false) r (no_answer r gone)),
)

-- ---- the calls so far as a session

pub sound : (latched : Bool) (old new : States) (cs : List Call) (rs : List Reply) (doubt : Option ℕ) → MeetsDefinition latched old new cs rs → IsSilentFrom doubt rs → IsSound old cs rs doubt
sound latched old new cs rs doubt meets silent found t has = record { count = meets.count; replies = meets.headline t (found t) has; silent = silent }

-- a session whose store isn't latched
pub session_open : (old new : States) (left : Outcomes) (cs : List Call) (rs : List Reply) → MeetsDefinition false old new cs rs → HasOneState new
    → ((t : List ℕ) (found : Found) → left t found → Shows new t found) → IsSession old left cs rs
session_open old new left cs rs meets one settled = record { doubt = None; sound = sound false old new cs rs None meets tt; crash = leaves_open old new left cs rs None meets one settled }

-- a session whose last call latched it
pub session_latched : (old mid new : States) (left : Outcomes) (cs : List Call) (rs : List Reply) (c : Call) (r : Reply) → MeetsDefinition false old mid cs rs → HasOneState mid
    → MeetsDefinition true old new (cs ++ c ∷ []) (rs ++ r ∷ []) → IsUnavailable r → LeavesStep c mid left → IsSession old left (cs ++ c ∷ []) (rs ++ r ∷ [])
session_latched old mid new left cs rs c r before one after gone leaves = record {
  doubt = Some (length rs);
  sound = sound true old new (cs ++ c ∷ []) (rs ++ r ∷ []) (Some (length rs)) after (silent_first rs r gone);
  crash = leaves_latched old mid left cs rs c r before one gone leaves;
}

-- ---- calls before a session

-- the doubt, counted from the first of all calls
doubt_behind : List Reply → Option ℕ → Option ℕ
doubt_behind rs doubt = option_map (λ n. length rs + n) doubt

-- it is the same call
same_doubt : (doubt : Option ℕ) (cs ds : List Call) (rs : List Reply) → length rs ≡ length cs → at_doubt (doubt_behind rs doubt) (cs ++ ds) ≡ at_doubt doubt ds
unfolding doubt_behind
same_doubt None cs ds rs count = refl
same_doubt (Some place) cs ds rs count = ap (λ n. take 1 (drop (n + place) (cs ++ ds))) count ∙ ap (take 1) (drop_past cs ds place)

silent_behind : (doubt : Option ℕ) (rs qs : List Reply) → IsSilentFrom doubt qs → IsSilentFrom (doubt_behind rs doubt) (rs ++ qs)
unfolding doubt_behind
silent_behind None rs qs silent = tt
silent_behind (Some place) rs qs silent =
    (omega (arith, silent.0, length-append rs qs), subst (λ ps. All (λ q. is_answered q ≡ false) ps) (sym (drop_past rs qs place)) silent.1)

-- a session with calls before it that were served, and didn't latch the store
pub session_both : (old mid : States) (left : Outcomes) (cs : List Call) (rs : List Reply) (ds : List Call) (qs : List Reply) → MeetsDefinition false old mid cs rs → IsSession mid left ds qs
    → IsSession old left (cs ++ ds) (rs ++ qs)
session_both old mid left cs rs ds qs first second = record {
  doubt = doubt_behind rs second.doubt;
  sound = λ found t has.
      let s = found t in
      let one = second.sound (between found) t (first.leaves refl t s has) in
      record {
        count = let few = first.count in let more = one.count in simp length-append (omega arith);
        replies = rw (
          replies-append t cs ds rs qs first.count,
          calls-append t cs ds rs qs first.count,
          alone-replies s (calls_answered t cs rs) (calls_answered t ds qs),
          first.headline t s has,
          one.replies,
        ) refl;
        silent = silent_behind second.doubt rs qs one.silent;
      };
  crash = λ found t next has there.
      let one = second.crash (between found) t next (first.leaves refl t (found t) has) there in (one.0, one.1, may_leave found t one.0 one.2);
}
  where
    -- the states that the calls before it left
    between : (List ℕ → Option TenantState) → List ℕ → Option TenantState
    between found t = (alone (found t) (calls_answered t cs rs)).state

    may_leave : (found : List ℕ → Option TenantState) (t : List ℕ) (s : Option TenantState) → MayLeave t (session (between found) ds qs second.doubt) s
        → MayLeave t (session found (cs ++ ds) (rs ++ qs) (doubt_behind rs second.doubt)) s
    may_leave found t s (inl e) = inl (e ∙ sym (alone-state (found t) (calls_answered t cs rs) (calls_answered t ds qs))
        ∙ ap (λ xs. (alone (found t) xs).state) (sym (calls-append t cs ds rs qs first.count)))
    may_leave found t s (inr e) =
        let calls = calls_answered t cs rs in
        let more = calls_answered t ds qs in
        let last = filter (is_of t) (at_doubt second.doubt ds) in
        inr (e ∙ sym (alone-state (found t) calls (more ++ last))
        ∙ ap (λ xs. (alone (found t) xs).state) (sym (append_assoc calls more last)
        ∙ ap (λ xs. xs ++ last) (sym (calls-append t cs ds rs qs first.count))
        ∙ ap (λ xs. calls_answered t (cs ++ ds) (rs ++ qs) ++ filter (is_of t) xs) (sym (same_doubt second.doubt cs ds rs first.count))))

-- ---- a session goes on

-- a session goes on in a store that is latched
silent_again : (rs : List Reply) (r : Reply) (doubt : Option ℕ) → IsSilentFrom doubt rs → IsUnavailable r → IsSilentFrom doubt (rs ++ r ∷ [])
silent_again rs r None silent gone = tt
silent_again rs r (Some place) silent gone = silent_more rs r place silent gone

leaves_again : (old : States) (left after : Outcomes) (cs : List Call) (rs : List Reply) (c : Call) (r : Reply) (doubt : Option ℕ) → length rs ≡ length cs → IsUnavailable r
    → ((t : List ℕ) (found : Found) → after t found → left t found) → IsSound old cs rs doubt → LeavesSession old left cs rs doubt → LeavesSession old after (cs ++ c ∷ []) (rs ++ r ∷ []) doubt
leaves_again old left after cs rs c r None count gone rests sound leaves found t next has there =
    let before = leaves found t next has (rests t next there) in (
      before.0,
      before.1,
      subst (λ ds. (before.0 ≡ (alone (found t) ds).state) ⊎ (before.0 ≡ (alone (found t) (ds ++ [])).state)) (sym (same_calls t cs rs c r count gone)) before.2,
    )
leaves_again old left after cs rs c r (Some place) count gone rests sound leaves found t next has there =
    leaves_shut old left after cs rs c r place count ((sound found t has).silent.0) gone rests leaves found t next has there

session_shut : (old : States) (left after : Outcomes) (cs : List Call) (rs : List Reply) (c : Call) (r : Reply) → length rs ≡ length cs → IsUnavailable r
    → ((t : List ℕ) (found : Found) → after t found → left t found) → IsSession old left cs rs → IsSession old after (cs ++ c ∷ []) (rs ++ r ∷ [])
session_shut old left after cs rs c r count gone rests before = record {
  doubt = before.doubt;
  sound = λ found t has.
      let one = before.sound found t has in
      let same = same_answered t cs rs c r count gone in
      record {
        count = simp length-append (omega (arith, count));
        replies = ap (map (λ (p : Call × Reply). p.1)) same ∙ one.replies ∙ sym (ap (λ ps. (alone (found t) (map (λ (p : Call × Reply). p.0) ps)).replies) same);
        silent = silent_again rs r before.doubt one.silent gone;
      };
  crash = leaves_again old left after cs rs c r before.doubt count gone rests before.sound before.crash;
}

-- a session goes on, whatever the store did
pub session_more : (old mid : States) (left right : Outcomes) (was : Bool) (cs : List Call) (rs : List Reply) (c : Call) (r : Reply) → MeetsDefinition was old mid cs rs → IsSession old left cs rs
    → (was ≡ false → IsSession mid right (c ∷ []) (r ∷ [])) → (was ≡ true → IsUnavailable r) → (was ≡ true → (t : List ℕ) (found : Found) → right t found → left t found)
    → IsSession old right (cs ++ c ∷ []) (rs ++ r ∷ [])
session_more old mid left right false cs rs c r meets before one gone rests = session_both old mid right cs rs (c ∷ []) (r ∷ []) meets (one refl)
session_more old mid left right true cs rs c r meets before one gone rests = session_shut old left right cs rs c r meets.count (gone refl) (rests refl) before

-- ---- one call more

-- one more call, by whether the store was latched before it, and is after it
pub record OneMore (before after : Bool) (mid : States) (left right : Outcomes) (c : Call) (r : Reply) : Type 0 where
  pub crash : before ≡ false → after ≡ true → LeavesStep c mid right
  pub rests : before ≡ true → (t : List ℕ) (found : Found) → right t found → left t found
  pub one : before ≡ false → HasOneState mid

pub leaves_more : (old mid : States) (left right : Outcomes) (cs : List Call) (rs : List Reply) (c : Call) (r : Reply) (doubt : Option ℕ) (after : Bool) → IsSilentFrom doubt rs
    → (is_some doubt ≡ true → after ≡ true) → (after ≡ true → IsUnavailable r) → OneMore (is_some doubt) after mid left right c r
    → MeetsDefinition (is_some doubt) old mid cs rs → LeavesSoFar old left (is_some doubt) cs rs doubt
    → LeavesSoFar old right after (cs ++ c ∷ []) (rs ++ r ∷ []) (doubt_after doubt after (length rs))
leaves_more old mid left right cs rs c r (Some place) true silent stays gone more meets so =
    λ _. leaves_shut old left right cs rs c r place meets.count silent.0 (gone refl) (more.rests refl) (so refl)
leaves_more old mid left right cs rs c r (Some place) false silent stays gone more meets so = λ h. let both : false ≡ true = h in cc
leaves_more old mid left right cs rs c r None true silent stays gone more meets so = λ _. leaves_latched old mid right cs rs c r meets (more.one refl) (gone refl) (more.crash refl refl)
leaves_more old mid left right cs rs c r None false silent stays gone more meets so = λ h. let both : false ≡ true = h in cc

pub silent_after : (rs : List Reply) (r : Reply) (doubt : Option ℕ) (after : Bool) → IsSilentFrom doubt rs → (is_some doubt ≡ true → after ≡ true)
    → (after ≡ true → IsUnavailable r) → IsSilentFrom (doubt_after doubt after (length rs)) (rs ++ r ∷ [])
silent_after rs r (Some place) after silent stays gone = silent_more rs r place silent (gone (stays refl))
silent_after rs r None true silent stays gone = silent_first rs r (gone refl)
silent_after rs r None false silent stays gone = tt

pub latch_after : (doubt : Option ℕ) (after : Bool) (place : ℕ) → (is_some doubt ≡ true → after ≡ true) → is_some (doubt_after doubt after place) ≡ after
latch_after (Some earlier) after place stays = sym (stays refl)
latch_after None true place stays = refl
latch_after None false place stays = refl

-- a session, by whether its store is latched
pub leaves_session : (old new : States) (left : Outcomes) (cs : List Call) (rs : List Reply) (doubt : Option ℕ) (latched : Bool) → MeetsDefinition latched old new cs rs → (latched ≡ false → HasOneState new)
    → LeavesSoFar old left latched cs rs doubt → (latched ≡ false → (t : List ℕ) (found : Found) → left t found → Shows new t found) → LeavesSession old left cs rs doubt
leaves_session old new left cs rs doubt true meets one so settled = so refl
leaves_session old new left cs rs doubt false meets one so settled = leaves_open old new left cs rs doubt meets (one refl) (settled refl)

-- ---- one session after another

-- where each name of an opening is what a crash of the session before may leave, both are linked
pub linked : (old : States) (left : Outcomes) (cs : List Call) (rs : List Reply) (doubt : Option ℕ) (found next : List ℕ → Option TenantState) → LeavesSession old left cs rs doubt
    → (t : List ℕ) → old t (found t) → left t (HasState (next t)) → MayLeave t (session found cs rs doubt) (next t)
linked old left cs rs doubt found next leaves t has there =
    let one = leaves found t (HasState (next t)) has there in
    let is = one.1 in
    let same : next t ≡ one.0 = cc in
    subst (λ (s : Option TenantState). MayLeave t (session found cs rs doubt) s) (sym same) one.2

-- two sessions, of which the second found what a crash of the first may leave, are a history
pub history_of_two : (old mid : States) (left : Outcomes) (cs : List Call) (rs : List Reply) (doubt : Option ℕ) (ds : List Call) (qs : List Reply) (later : Option ℕ)
    (found next : List ℕ → Option TenantState) (t : List ℕ) → IsSound old cs rs doubt → LeavesSession old left cs rs doubt → IsSound mid ds qs later
    → old t (found t) → mid t (next t) → left t (HasState (next t)) → IsHistoryFor t (session found cs rs doubt) (session next ds qs later ∷ [])
history_of_two old mid left cs rs doubt ds qs later found next t first leaves second has also there =
    record { sound = all; linked = (linked old left cs rs doubt found next leaves t has there, tt) }
  where
    all : All (IsSoundFor t) (session found cs rs doubt ∷ session next ds qs later ∷ [])
    all zero d lt = first found t has
    all (suc zero) d lt = second next t also
    all (suc (suc k)) d lt = absurd (omega arith)
