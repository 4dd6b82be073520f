-- The calls of a tenant that were answered, by their places.
use Rattle.std.proofs.Common.{◌≡◌, ◌≢◌, ◌⊎◌, inl, inr, ◌&&◌, ◌==◌, ℕ, zero, suc, List, [], ◌∷◌, map, take, slice_get, Bool, true, false, not, cond, Option, Some, None, Contains, refl, sym, ap, subst, ◌∙◌, arith}
use Rattle.std.proofs.lemmas.Bool.{false_from_ne_true}
use Rattle.std.proofs.lemmas.Bool.Decides.{Decides-eqb}
use Rattle.std.specs.List.{All}
use Rattle.tenant_core.specs.Alone.{alone, answered, calls_answered, is_answered, replies_answered}
use Rattle.tenant_core.specs.Step.{is_of, step}
use Rattle.crush_laws.proofs.Lists.{past, in_front, front_or_past, none_in}
use Rattle.tenant_core.specs.tenant_messages.specs.declared.call.Call.{Call}
use Rattle.tenant_core.specs.tenant_messages.specs.declared.reply.Reply.{Reply}
use Rattle.tenant_core.specs.tenant_state.specs.State.{TenantState}

-- ---- the status 503

pub is_no_503 : (r : Reply) → r.status ≢ 503 → is_answered r ≡ true
is_no_503 r ne = ap not (false_from_ne_true (r.status == 503) (λ e. ne ((Decides-eqb r.status 503).0 e)))

not_false : (b : Bool) → not b ≡ false → b ≡ true
not_false true e = refl
not_false false e = cc

pub is_503 : (r : Reply) → is_answered r ≡ false → r.status ≡ 503
is_503 r e = (Decides-eqb r.status 503).0 (not_false (r.status == 503) e)

both : (a b : Bool) → a ≡ true → b ≡ true → (a && b) ≡ true
both a b e f = rw (e, f) refl

first_true : (a b : Bool) → (a && b) ≡ true → a ≡ true
first_true true b e = refl
first_true false b e = cc

second_true : (a b : Bool) → (a && b) ≡ true → b ≡ true
second_true true b e = e
second_true false b e = cc

no_503_is : (r : Reply) → is_answered r ≡ true → r.status ≢ 503
no_503_is r e same = let f : is_answered r ≡ false = ap not ((Decides-eqb r.status 503).1 same) in let g : true ≡ false = sym e ∙ f in cc

-- ---- each answered call is among them, and no other

pub among_answered : (t : List ℕ) (calls : List Call) (replies : List Reply) (place : ℕ) (c : Call) (r : Reply) → slice_get calls place ≡ Some c → slice_get replies place ≡ Some r
    → is_of t c ≡ true → is_answered r ≡ true → Contains (answered t calls replies) (c, r)
among_answered t [] replies place c r called replied own is = cc
among_answered t (call ∷ calls) [] place c r called replied own is = cc
among_answered t (call ∷ calls) (reply ∷ replies) zero c r called replied own is =
    let e : c ≡ call = cc in
    let f : r ≡ reply = cc in
    rw (e, f) (in_front (is_of t call && is_answered reply) (call, reply) (answered t calls replies) (both (is_of t call) (is_answered reply) (rw e at own) (rw f at is)))
among_answered t (call ∷ calls) (reply ∷ replies) (suc place) c r called replied own is =
    past (is_of t call && is_answered reply) (call, reply) (answered t calls replies) (c, r) (among_answered t calls replies place c r called replied own is)

pub record Stands (t : List ℕ) (calls : List Call) (replies : List Reply) (p : Call × Reply) : Type 0 where
  pub place : ℕ
  pub called : slice_get calls place ≡ Some p.0
  pub replied : slice_get replies place ≡ Some p.1
  pub own : is_of t p.0 ≡ true
  pub answered : p.1.status ≢ 503

pub stands : (t : List ℕ) (calls : List Call) (replies : List Reply) (p : Call × Reply) → Contains (answered t calls replies) p → Stands t calls replies p
stands t [] replies p there = absurd (none_in p there)
stands t (call ∷ calls) [] p there = absurd (none_in p there)
stands t (call ∷ calls) (reply ∷ replies) p there = elim (front_or_past (is_of t call && is_answered reply) (call, reply) (answered t calls replies) p there) [
  | inl here ↦ record {
    place = zero;
    called = ap (λ (q : Call × Reply). Some q.0) here.1;
    replied = ap (λ (q : Call × Reply). Some q.1) here.1;
    own = ap (λ (q : Call × Reply). is_of t q.0) (sym here.1) ∙ first_true (is_of t call) (is_answered reply) here.0;
    answered = subst (λ (q : Call × Reply). q.1.status ≢ 503) here.1 (no_503_is reply (second_true (is_of t call) (is_answered reply) here.0));
  }
  | inr later ↦ (let deep = stands t calls replies p later in record { place = suc deep.place; called = deep.called; replied = deep.replied; own = deep.own; answered = deep.answered })
]

-- no call of a tenant that isn't called is answered
pub none_answered : (t : List ℕ) (calls : List Call) (replies : List Reply) → All (λ c. is_of t c ≡ false) calls → answered t calls replies ≡ []
none_answered t [] replies none = refl
none_answered t (call ∷ calls) [] none = refl
none_answered t (call ∷ calls) (reply ∷ replies) none =
    let other : is_of t call ≡ false = none zero call (omega arith) in
    ap (λ b. cond {A = List (Call × Reply)} (b && is_answered reply) ((call, reply) ∷ answered t calls replies) (answered t calls replies)) other
    ∙ none_answered t calls replies (λ k d lt. none (suc k) d (omega arith))

-- ---- their replies are those of steps

-- the replies to the answered calls of a tenant are those of the calls alone
abbrev Follow : List ℕ → Option TenantState → List Call → List Reply → Type 0
Follow t s calls replies = replies_answered t calls replies ≡ (alone s (calls_answered t calls replies)).replies

-- the state before a place
abbrev before : List ℕ → Option TenantState → List Call → List Reply → ℕ → Option TenantState
before t s calls replies place = (alone s (calls_answered t (take place calls) (take place replies))).state

at_first : (b : Bool) (s : Option TenantState) (c : Call) (r : Reply) (ps : List (Call × Reply)) → b ≡ true
    → map (λ (p : Call × Reply). p.1) (cond b ((c, r) ∷ ps) ps) ≡ (alone s (map (λ (p : Call × Reply). p.0) (cond b ((c, r) ∷ ps) ps))).replies → r ≡ (step c s).reply
at_first true s c r ps e follow = cc
at_first false s c r ps e follow = cc

-- the state after a call that counts, or doesn't
abbrev after_one : Bool → Call → Option TenantState → Option TenantState
after_one b c s = cond b (step c s).state s

follow_on : (b : Bool) (s : Option TenantState) (c : Call) (r : Reply) (ps : List (Call × Reply))
    → map (λ (p : Call × Reply). p.1) (cond b ((c, r) ∷ ps) ps) ≡ (alone s (map (λ (p : Call × Reply). p.0) (cond b ((c, r) ∷ ps) ps))).replies
    → map (λ (p : Call × Reply). p.1) ps ≡ (alone (after_one b c s) (map (λ (p : Call × Reply). p.0) ps)).replies
follow_on true s c r ps follow = cc
follow_on false s c r ps follow = follow

before_on : (b : Bool) (s : Option TenantState) (c : Call) (r : Reply) (ps : List (Call × Reply))
    → (alone (after_one b c s) (map (λ (p : Call × Reply). p.0) ps)).state ≡ (alone s (map (λ (p : Call × Reply). p.0) (cond b ((c, r) ∷ ps) ps))).state
before_on true s c r ps = refl
before_on false s c r ps = refl

pub reply_at : (t : List ℕ) (s : Option TenantState) (calls : List Call) (replies : List Reply) (place : ℕ) (c : Call) (r : Reply) → Follow t s calls replies
    → slice_get calls place ≡ Some c → slice_get replies place ≡ Some r → is_of t c ≡ true → is_answered r ≡ true → r ≡ (step c (before t s calls replies place)).reply
reply_at t s [] replies place c r follow called replied own is = cc
reply_at t s (call ∷ calls) [] place c r follow called replied own is = cc
reply_at t s (call ∷ calls) (reply ∷ replies) zero c r follow called replied own is =
    let e : c ≡ call = cc in
    let f : r ≡ reply = cc in
    rw (e, f) (at_first (is_of t call && is_answered reply) s call reply (answered t calls replies) (both (is_of t call) (is_answered reply) (rw e at own) (rw f at is)) follow)
reply_at t s (call ∷ calls) (reply ∷ replies) (suc place) c r follow called replied own is =
    let b = is_of t call && is_answered reply in
    reply_at t (after_one b call s) calls replies place c r (follow_on b s call reply (answered t calls replies) follow) called replied own is
    ∙ ap (λ (u : Option TenantState). (step c u).reply) (before_on b s call reply (answered t (take place calls) (take place replies)))
