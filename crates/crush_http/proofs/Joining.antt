-- A run of calls goes on by the calls of one turn.
use Rattle.std.proofs.Common.{◌≡◌, ◌∙◌, ℕ, Bool, true, false, List, [], ◌∷◌, ◌++◌, ap, sym, subst}
use Rattle.std.proofs.lemmas.List.{append-nil}
use Rattle.tenant_core.specs.States.{Found, LeavesStep, Outcomes, Serves, Shows, States}
use Rattle.tenant_core.specs.StoreReply.{IsUnavailable}
use Rattle.tenant_core.proofs.Running.{run_on, run_none}
use Rattle.tenant_service.proofs.Served.{session_more}
use Rattle.tenant_service.specs.Served.{ServesSession}
use Rattle.tenant_core.specs.tenant_messages.specs.declared.call.Call.{Call}
use Rattle.tenant_core.specs.tenant_messages.specs.declared.reply.Reply.{Reply}
use Rattle.tenant_service.proofs.OneSession.{Rests, no_session, one_session}
use Rattle.crush_http.specs.Private.Served.{Replies, ServesAtMostOne}

-- ---- the reply to one call

module _ {T : Type 0} (latched : T → Bool) (states : T → States) (leave : T → Outcomes) (honest : T → Type 0) where
  -- from the laws of a store, and what a service ensures of the call
  pub one_reply : ((store : T) (t : List ℕ) (s u : _) → honest store → latched store ≡ false → states store t s → states store t u → s ≡ u)
      → ((store : T) (t : List ℕ) (found : Found) → honest store → latched store ≡ false → leave store t found → Shows (states store) t found) → (old new : T) (call : Call) (reply : Reply)
      → (honest new → latched new ≡ false → Serves call (states old) (states new) reply) → (latched new ≡ true → IsUnavailable reply)
      → (honest new → latched old ≡ false → latched new ≡ true → LeavesStep call (states old) (leave new)) → (latched old ≡ true → new ≡ old) → (honest new → honest old)
      → Replies (honest new) (latched old) (latched new) (states old) (states new) (leave old) (leave new) call reply
  one_reply one settled old new call reply serves silent crash rests back = record {
    serves = serves;
    silent = silent;
    rests = λ was. ap latched (rests was) ∙ was;
    session = λ is works.
        one_session (latched new) (states old) (states new) (leave old) (leave new) call reply
        (record { one = λ _ t s u. one old t s u (back is) works; settled = λ _ t found there. settled old t found (back is) works there })
        (record { one = λ still t s u. one new t s u is still; settled = λ still t found there. settled new t found is still there })
        (serves is) silent (crash is works);
    stays = λ was t found there. subst (λ x. leave x t found) (rests was) there;
  }

-- ---- a run

module _ {T : Type 0} (latched : T → Bool) (states : T → States) (leave : T → Outcomes) (honest : T → Type 0) (old : T) where
  -- what is known of a run up to a store
  abbrev pub Runs : T → List Call → List Reply → Type 0
  Runs store calls replies = honest store → ServesSession (latched old) (latched store) (states old) (states store) (leave store) calls replies

  pub join_none : (honest old → latched old ≡ false → Rests false (states old) (leave old)) → Runs old [] []
  join_none rests = λ is. record {
    meets = run_none (latched old) (states old) (states old) (λ _ t s. (λ has. has, λ has. has));
    session = λ works. no_session (states old) (leave old) (rests is works);
  }

  -- one call more
  pub join_one : (mid new : T) → (honest new → honest mid) → (cs : List Call) (rs : List Reply) (call : Call) (reply : Reply) → Runs mid cs rs
      → Replies (honest new) (latched mid) (latched new) (states mid) (states new) (leave mid) (leave new) call reply → Runs new (cs ++ call ∷ []) (rs ++ reply ∷ [])
  join_one mid new back cs rs call reply before one = λ is.
      let first = before (back is) in record {
        meets = run_on (latched mid) (latched new) (states old) (states mid) (states new) cs rs call reply first.meets (one.serves is) one.silent one.rests;
        session = λ works.
            session_more (states old) (states mid) (leave mid) (leave new) (latched mid) cs rs call reply first.meets (first.session works) (one.session is)
            (λ was. one.silent (one.rests was)) one.stays;
      }

  -- no call more
  join_same : (mid : T) (cs : List Call) (rs : List Reply) → Runs mid cs rs → Runs mid (cs ++ []) (rs ++ [])
  join_same mid cs rs before = subst (λ ds. Runs mid ds (rs ++ [])) (sym (append-nil cs)) (subst (λ qs. Runs mid cs qs) (sym (append-nil rs)) before)

  -- one call more at most
  pub join_last : (mid new : T) → (honest new → honest mid) → (cs ds : List Call) (rs qs : List Reply) → Runs mid cs rs
      → ServesAtMostOne (new ≡ mid) (Replies (honest new) (latched mid) (latched new) (states mid) (states new) (leave mid) (leave new)) ds qs → Runs new (cs ++ ds) (rs ++ qs)
  join_last mid new back cs [] rs [] before same = subst (λ store. Runs store (cs ++ []) (rs ++ [])) (sym same) (join_same mid cs rs before)
  join_last mid new back cs (call ∷ []) rs (reply ∷ []) before one = join_one mid new back cs rs call reply before one
  join_last mid new back cs [] rs (q ∷ qs) before never = absurd never
  join_last mid new back cs (d ∷ []) rs [] before never = absurd never
  join_last mid new back cs (d ∷ e ∷ ds) rs [] before never = absurd never
  join_last mid new back cs (d ∷ []) rs (q ∷ p ∷ qs) before never = absurd never
  join_last mid new back cs (d ∷ e ∷ ds) rs (q ∷ qs) before never = absurd never
