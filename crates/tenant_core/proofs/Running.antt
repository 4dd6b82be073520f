-- A run with one more call, and a run after another.
use Rattle.std.proofs.Common.{◌≡◌, ℕ, zero, suc, ◌&&◌, ◌==◌, inl, inr, List, [], ◌∷◌, ◌++◌, map, filter, zip, length, Bool, true, false, not, cond, Option, refl, ap, sym, ◌∙◌, arith, length-append}
use Rattle.std.proofs.lemmas.List.{append-nil, map-append}
use Rattle.std.proofs.lemmas.List.Elements.{filter-append, All-append}
use Rattle.std.specs.List.{All, AllZip}
use Rattle.tenant_messages.specs.declared.call.Call.{Call}
use Rattle.tenant_messages.specs.declared.reply.Reply.{Reply}
use Rattle.tenant_state.specs.State.{TenantState}
use Rattle.tenant_core.specs.Alone.{alone, is_answered, answered, calls_answered, replies_answered}
use Rattle.tenant_core.specs.States.{States, Same, Follows, Serves, ServesCallOfNobody, ServesCallOfDamaged, NamesCause, MeetsDefinition}
use Rattle.tenant_core.specs.Step.{step, is_of}
use Rattle.tenant_core.proofs.Replying.{status-unavailable}
use Rattle.tenant_core.specs.StoreReply.{IsUnavailable}

-- ---- the empty run

pub run_none : (latched : Bool) (old new : States) → (latched ≡ false → Same old new) → MeetsDefinition latched old new [] []
run_none latched old new same = record {
  count = refl;
  headline = λ t s has. refl;
  leaves = λ open_yet t s has. (same open_yet t s).0 has;
  nobody = tt;
  damaged = λ t bad. tt;
  stays = λ open_yet t bad s has. bad s ((same open_yet t s).1 has);
  causes = λ k d lt. absurd (omega arith);
}

-- ---- a run of one call

-- whether the reply to this call is an answer to the tenant
abbrev counts : List ℕ → Call → Reply → Bool
counts t c r = is_of t c && is_answered r

-- the effect of one call and its reply on a tenant of that state: that of the call's step, if the
-- reply counts; else the state is unchanged
record Comes (counted : Bool) (old : Option TenantState) (c : Call) (r : Reply) (Has : Option TenantState → Type 0) : Type 0 where
  pub of_step : counted ≡ true → (r ≡ (step c old).reply) × Has (step c old).state
  pub kept : counted ≡ false → Has old

-- so the reply is that to the call alone, and the state is the one that the call leaves
one-headline : (t : List ℕ) (s : Option TenantState) (c : Call) (r : Reply) (New : Option TenantState → Type 0) (b : Bool) → Comes b s c r New
    → map (λ (p : Call × Reply). p.1) (cond b ((c, r) ∷ []) []) ≡ (alone s (map (λ (p : Call × Reply). p.0) (cond b ((c, r) ∷ []) []))).replies
one-headline t s c r New true comes = ap (λ r. r ∷ []) (comes.of_step refl).0
one-headline t s c r New false comes = refl

one-leaves : (t : List ℕ) (s : Option TenantState) (c : Call) (r : Reply) (New : Option TenantState → Type 0) (b : Bool) → Comes b s c r New
    → New (alone s (map (λ (p : Call × Reply). p.0) (cond b ((c, r) ∷ []) []))).state
one-leaves t s c r New true comes = (comes.of_step refl).1
one-leaves t s c r New false comes = comes.kept refl

-- an answer to a call of the tenant counts
comes-answered : (s : Option TenantState) (c : Call) (r : Reply) (New : Option TenantState → Type 0) (own : Bool) → is_answered r ≡ true
    → (own ≡ true → (r ≡ (step c s).reply) × New (step c s).state) → (own ≡ false → New s) → Comes (own && is_answered r) s c r New
comes-answered s c r New true counted taken other = record {
  of_step = λ h. taken refl;
  kept = λ h. let both : true ≡ false = sym counted ∙ h in cc;
}
comes-answered s c r New false counted taken other = record { of_step = λ h. let both : false ≡ true = h in cc; kept = λ h. other refl }

-- a 503 doesn't count
comes-unavailable : (s : Option TenantState) (c : Call) (r : Reply) (New : Option TenantState → Type 0) (own : Bool) → r.status ≡ 503 → New s → Comes (own && is_answered r) s c r New
comes-unavailable s c r New true gone kept = record {
  of_step = λ h. let no : is_answered r ≡ false = ap (λ n. not (n == 503)) gone in let both : true ≡ false = sym h ∙ no in cc;
  kept = λ h. kept;
}
comes-unavailable s c r New false gone kept = record { of_step = λ h. let both : false ≡ true = h in cc; kept = λ h. kept }

comes : (old new : States) (c : Call) (r : Reply) → Serves c old new r → (t : List ℕ) (s : Option TenantState) → old t s → Comes (counts t c r) s c r (new t)
comes old new c r (inl by) t s has = comes-answered s c r (new t) (is_of t c) by.answered (λ own. by.own t s own has) (λ other. (by.others t s other).0 has)
comes old new c r (inr gone) t s has = comes-unavailable s c r (new t) (is_of t c) (status-unavailable r gone.unavailable) ((gone.same t s).0 has)

serves-nobody : (old new : States) (c : Call) (r : Reply) → Serves c old new r → ServesCallOfNobody c r
serves-nobody old new c r (inl by) = λ none. inl (by.nobody none)
serves-nobody old new c r (inr gone) = λ none. inr gone.unavailable

serves-damaged : (old new : States) (c : Call) (r : Reply) (t : List ℕ) → Serves c old new r → ((s : Option TenantState) → old t s → ⊥) → ServesCallOfDamaged t c r
serves-damaged old new c r t (inl by) bad = λ own. inl (by.damaged t own bad).0
serves-damaged old new c r t (inr gone) bad = λ own. inr gone.unavailable

-- a damaged tenant stays damaged, whether the call is its own or not
still-by : (old new : States) (c : Call) (r : Reply) (t : List ℕ) (own : Bool) → is_of t c ≡ own → Follows c old new r
    → ((s : Option TenantState) → old t s → ⊥) → (s : Option TenantState) → new t s → ⊥
still-by old new c r t true e by bad = (by.damaged t e bad).1
still-by old new c r t false e by bad = λ s has. bad s ((by.others t s e).1 has)

still-damaged : (old new : States) (c : Call) (r : Reply) (t : List ℕ) → Serves c old new r → ((s : Option TenantState) → old t s → ⊥) → (s : Option TenantState) → new t s → ⊥
still-damaged old new c r t (inl by) bad = still-by old new c r t (is_of t c) refl by bad
still-damaged old new c r t (inr gone) bad = λ s has. bad s ((gone.same t s).1 has)

names-cause : (old new : States) (c : Call) (r : Reply) → Serves c old new r → NamesCause r
names-cause old new c r (inl by) = λ gone. let no : is_answered r ≡ false = ap (λ n. not (n == 503)) gone in let both : true ≡ false = sym by.answered ∙ no in cc
names-cause old new c r (inr gone) = λ _. gone.unavailable

all_one : (P : Reply → Type 0) (r : Reply) → P r → All P (r ∷ [])
all_one P r h zero d lt = h
all_one P r h (suc k) d lt = absurd (omega arith)

pub run_one : (old new : States) (c : Call) (r : Reply) → Serves c old new r → MeetsDefinition false old new (c ∷ []) (r ∷ [])
run_one old new c r by = record {
  count = refl;
  headline = λ t s has. one-headline t s c r (new t) (counts t c r) (comes old new c r by t s has);
  leaves = λ _ t s has. one-leaves t s c r (new t) (counts t c r) (comes old new c r by t s has);
  nobody = (serves-nobody old new c r by, tt);
  damaged = λ t bad. (serves-damaged old new c r t by bad, tt);
  stays = λ _ t bad. still-damaged old new c r t by bad;
  causes = all_one NamesCause r (names-cause old new c r by);
}

-- ---- two runs, one after the other

alone-replies : (s : Option TenantState) (cs ds : List Call) → (alone s (cs ++ ds)).replies ≡ (alone s cs).replies ++ (alone (alone s cs).state ds).replies
alone-replies s [] ds = refl
alone-replies s (c ∷ cs) ds = ap (λ rs. (step c s).reply ∷ rs) (alone-replies (step c s).state cs ds)

alone-state : (s : Option TenantState) (cs ds : List Call) → (alone s (cs ++ ds)).state ≡ (alone (alone s cs).state ds).state
alone-state s [] ds = refl
alone-state s (c ∷ cs) ds = alone-state (step c s).state cs ds

-- two pairs of lists of equal lengths are zipped one after the other
zip-append : {A B : Type 0} (xs zs : List A) (ys ws : List B) → length ys ≡ length xs → zip (xs ++ zs) (ys ++ ws) ≡ zip xs ys ++ zip zs ws
zip-append [] zs [] ws h = refl
zip-append [] zs (y ∷ ys) ws h = absurd (omega arith)
zip-append (x ∷ xs) zs [] ws h = absurd (omega arith)
zip-append (x ∷ xs) zs (y ∷ ys) ws h = ap (λ ps. (x, y) ∷ ps) (zip-append xs zs ys ws (omega arith))

all_zip-append : {A B : Type 0} (R : A → B → Type 0) (xs zs : List A) (ys ws : List B) → AllZip R xs ys → AllZip R zs ws → AllZip R (xs ++ zs) (ys ++ ws)
all_zip-append R [] zs [] ws h k = k
all_zip-append R [] zs (y ∷ ys) ws h k = absurd h
all_zip-append R (x ∷ xs) zs [] ws h k = absurd h
all_zip-append R (x ∷ xs) zs (y ∷ ys) ws h k = (h.0, all_zip-append R xs zs ys ws h.1 k)

-- the calls that count in two runs are those of the first and then those of the second
answered-append : (t : List ℕ) (cs ds : List Call) (rs qs : List Reply) → length rs ≡ length cs → answered t (cs ++ ds) (rs ++ qs) ≡ answered t cs rs ++ answered t ds qs
answered-append t cs ds rs qs h =
    let test = λ (p : Call × Reply). counts t p.0 p.1 in ap (filter test) (zip-append cs ds rs qs h) ∙ filter-append test (zip cs rs) (zip ds qs)

pub run_both : (latched : Bool) (old mid new : States) (cs : List Call) (rs : List Reply) (ds : List Call) (qs : List Reply) → MeetsDefinition false old mid cs rs
    → MeetsDefinition latched mid new ds qs → MeetsDefinition latched old new (cs ++ ds) (rs ++ qs)
run_both latched old mid new cs rs ds qs first second =
    let both_calls : (t : List ℕ) → calls_answered t (cs ++ ds) (rs ++ qs) ≡ calls_answered t cs rs ++ calls_answered t ds qs =
    λ t. ap (map (λ (p : Call × Reply). p.0)) (answered-append t cs ds rs qs first.count) ∙ map-append (λ (p : Call × Reply). p.0) (answered t cs rs) (answered t ds qs) in
    let both_replies : (t : List ℕ) → replies_answered t (cs ++ ds) (rs ++ qs) ≡ replies_answered t cs rs ++ replies_answered t ds qs =
    λ t. ap (map (λ (p : Call × Reply). p.1)) (answered-append t cs ds rs qs first.count) ∙ map-append (λ (p : Call × Reply). p.1) (answered t cs rs) (answered t ds qs) in
    record {
      count = let few = first.count in let more = second.count in simp length-append (omega arith);
      headline = λ t s has.
          let between = (alone s (calls_answered t cs rs)).state in
          rw (
            both_replies t,
            both_calls t,
            alone-replies s (calls_answered t cs rs) (calls_answered t ds qs),
            first.headline t s has,
            second.headline t between (first.leaves refl t s has),
          ) refl;
      leaves = λ open_yet t s has.
          let between = (alone s (calls_answered t cs rs)).state in
          rw (both_calls t, alone-state s (calls_answered t cs rs) (calls_answered t ds qs)) (second.leaves open_yet t between (first.leaves refl t s has));
      nobody = all_zip-append ServesCallOfNobody cs ds rs qs first.nobody second.nobody;
      damaged = λ t bad. all_zip-append (ServesCallOfDamaged t) cs ds rs qs (first.damaged t bad) (second.damaged t (first.stays refl t bad));
      stays = λ open_yet t bad. second.stays open_yet t (first.stays refl t bad);
      causes = All-append NamesCause rs qs first.causes second.causes;
    }

-- a run, and one call more
pub run_more : (old mid new : States) (cs : List Call) (rs : List Reply) (c : Call) (r : Reply) → MeetsDefinition false old mid cs rs → Serves c mid new r
    → MeetsDefinition false old new (cs ++ c ∷ []) (rs ++ r ∷ [])
run_more old mid new cs rs c r before served = run_both false old mid new cs rs (c ∷ []) (r ∷ []) before (run_one mid new c r served)

-- ---- a call to a store that is latched, or latches

not_counted : (t : List ℕ) (c : Call) (r : Reply) → IsUnavailable r → answered t (c ∷ []) (r ∷ []) ≡ []
not_counted t c r gone = at (is_of t c)
  where
    no : is_answered r ≡ false
    no = ap (λ n. not (n == 503)) (status-unavailable r gone)

    at : (own : Bool) → cond {A = List (Call × Reply)} (own && is_answered r) ((c, r) ∷ []) [] ≡ []
    at true = ap (λ b. cond {A = List (Call × Reply)} b ((c, r) ∷ []) []) no
    at false = refl

-- such a call counts for no tenant
same_answered : (t : List ℕ) (cs : List Call) (rs : List Reply) (c : Call) (r : Reply) → length rs ≡ length cs → IsUnavailable r
    → answered t (cs ++ c ∷ []) (rs ++ r ∷ []) ≡ answered t cs rs
same_answered t cs rs c r count gone =
    answered-append t cs (c ∷ []) rs (r ∷ []) count ∙ ap (λ ps. answered t cs rs ++ ps) (not_counted t c r gone) ∙ append-nil (answered t cs rs)

pub run_latched : (latched : Bool) (old mid new : States) (cs : List Call) (rs : List Reply) (c : Call) (r : Reply) → MeetsDefinition latched old mid cs rs → IsUnavailable r
    → MeetsDefinition true old new (cs ++ c ∷ []) (rs ++ r ∷ [])
run_latched latched old mid new cs rs c r before gone = record {
  count = let few = before.count in simp length-append (omega arith);
  headline = λ t s has.
      let same = same_answered t cs rs c r before.count gone in
      ap (map (λ (p : Call × Reply). p.1)) same ∙ before.headline t s has ∙ sym (ap (λ ps. (alone s (map (λ (p : Call × Reply). p.0) ps)).replies) same);
  leaves = λ open_yet. let both : true ≡ false = open_yet in cc;
  nobody = all_zip-append ServesCallOfNobody cs (c ∷ []) rs (r ∷ []) before.nobody (λ _. inr gone, tt);
  damaged = λ t bad. all_zip-append (ServesCallOfDamaged t) cs (c ∷ []) rs (r ∷ []) (before.damaged t bad) (λ _. inr gone, tt);
  stays = λ open_yet. let both : true ≡ false = open_yet in cc;
  causes = All-append NamesCause rs (r ∷ []) before.causes (all_one NamesCause r (λ _. gone));
}

-- a run, and one call more, whatever the store did; a latched store stays latched
pub run_on : (was is : Bool) (old mid new : States) (cs : List Call) (rs : List Reply) (c : Call) (r : Reply) → MeetsDefinition was old mid cs rs
    → (is ≡ false → Serves c mid new r) → (is ≡ true → IsUnavailable r) → (was ≡ true → is ≡ true) → MeetsDefinition is old new (cs ++ c ∷ []) (rs ++ r ∷ [])
run_on was true old mid new cs rs c r before serves silent rests = run_latched was old mid new cs rs c r before (silent refl)
run_on false false old mid new cs rs c r before serves silent rests = run_more old mid new cs rs c r before (serves refl)
run_on true false old mid new cs rs c r before serves silent rests = let both : false ≡ true = rests refl in cc
