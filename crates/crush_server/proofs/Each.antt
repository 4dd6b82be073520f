-- Clients that were served, and more of them.
use Rattle.std.proofs.Common.{◌≡◌, ℕ, zero, suc, ◌+◌, ◌<◌, ◌≤◌, Bool, true, false, List, [], ◌∷◌, ◌++◌, length, take, drop, Option, Some, None, IfSome, Result, refl, ap, sym, subst, ◌∙◌, inl, inr, arith, append_assoc, add-one, length-append, lit≤, IsSome}
use Rattle.std.proofs.lemmas.Bool.{false≢true}
use Rattle.std.proofs.lemmas.List.{append-nil}
use Rattle.std.specs.Io.KnownBytes.{Appends}
use Rattle.tenant_core.specs.tenant_messages.specs.declared.call.Call.{Call}
use Rattle.tenant_core.specs.tenant_messages.specs.declared.reply.Reply.{Reply}
use Rattle.tenant_service.specs.Input.{OfInput}
use Rattle.tenant_service.specs.Writing.{AppendsPart}
use Rattle.crush_http.specs.Messages.{Stop, input_ended, refused, last_served, read_failed, write_failed, calls_of}
use Rattle.crush_http.specs.Serving.{EndsAs, LeavesUnread, due, ServesInput, Writes}
use Rattle.crush_http.specs.declared.connection.ConnectionEnd.{ConnectionEnd}
use Rattle.crush_server.specs.Clients.{Clients, ServesClients, ServesEach, after_accepts, after_answers, all_sent, next_sent}

abbrev Says : Type 1
Says = List Call → List Reply → Type 0

-- ---- none, and one

abbrev is_none : Option (List ℕ) → Type 0
is_none None = Unit {0}
is_none (Some x) = ⊥

some_none : (x : List ℕ) → Some x ≡ None → ⊥
some_none x h = subst is_none (sym h) tt

-- ---- one connection

input_map : (M N : Says) (i : List ℕ) (left from to : Option (List ℕ)) (e : ConnectionEnd) → ((cs : List Call) (rs : List Reply) → M cs rs → N cs rs)
    → ServesInput M i left from to e → ServesInput N i left from to e
input_map M N i left from to e k s = record {
  messages = s.messages;
  stop = s.stop;
  has = s.has;
  replies = s.replies;
  count = s.count;
  meets = k _ _ s.meets;
  written = s.written;
  unread = s.unread;
}

-- ---- several connections

assoc_both : (M : Says) (a b c : List Call) (p q r : List Reply) → M ((a ++ b) ++ c) ((p ++ q) ++ r) → M (a ++ (b ++ c)) (p ++ (q ++ r))
assoc_both M a b c p q r h = subst (λ xs. M xs (p ++ (q ++ r))) (append_assoc a b c) (subst (λ ys. M ((a ++ b) ++ c) ys) (append_assoc p q r) h)

pub each_map : (is os : List (List ℕ)) (M N : Says) → ((cs : List Call) (rs : List Reply) → M cs rs → N cs rs) → ServesEach M is os → ServesEach N is os
each_map [] [] M N k h = k [] [] h
each_map [] (o ∷ os) M N k h = absurd h
each_map (i ∷ is) [] M N k h = absurd h
each_map (i ∷ is) (o ∷ os) M N k h = (
  h.0,
  input_map (λ c r. ServesEach (λ cs rs. M (c ++ cs) (r ++ rs)) is os) (λ c r. ServesEach (λ cs rs. N (c ++ cs) (r ++ rs)) is os) i None (Some []) (Some o) h.0
      (λ c r. each_map is os (λ cs rs. M (c ++ cs) (r ++ rs)) (λ cs rs. N (c ++ cs) (r ++ rs)) (λ cs rs. k (c ++ cs) (r ++ rs))) h.1,
)

-- the clients after others
pub each_both : (is os js ps : List (List ℕ)) (M N : Says) → ((cs : List Call) (rs : List Reply) → M cs rs → ServesEach (λ ds qs. N (cs ++ ds) (rs ++ qs)) js ps)
    → ServesEach M is os → ServesEach N (is ++ js) (os ++ ps)
each_both [] [] js ps M N k h = k [] [] h
each_both [] (o ∷ os) js ps M N k h = absurd h
each_both (i ∷ is) [] js ps M N k h = absurd h
each_both (i ∷ is) (o ∷ os) js ps M N k h = (
  h.0,
  input_map (λ c r. ServesEach (λ cs rs. M (c ++ cs) (r ++ rs)) is os) (λ c r. ServesEach (λ cs rs. N (c ++ cs) (r ++ rs)) (is ++ js) (os ++ ps)) i None (Some []) (Some o) h.0
      (λ c r. each_both is os js ps (λ cs rs. M (c ++ cs) (r ++ rs)) (λ cs rs. N (c ++ cs) (r ++ rs))
      (λ cs rs m. each_map js ps (λ ds qs. N ((c ++ cs) ++ ds) ((r ++ rs) ++ qs)) (λ ds qs. N (c ++ (cs ++ ds)) (r ++ (rs ++ qs)))
      (λ ds qs. assoc_both N c cs ds r rs qs) (k (c ++ cs) (r ++ rs) m)))
      h.1,
)

-- ---- what a listener says

sent_more : (n : ℕ) (xs : List (Option (List ℕ))) → all_sent (take n xs) ++ all_sent (take 1 (drop n xs)) ≡ all_sent (take (suc n) xs)
sent_more zero xs = refl
sent_more (suc n) [] = refl
sent_more (suc n) (None ∷ xs) = sent_more n xs
sent_more (suc n) (Some x ∷ xs) = ap (λ ys. x ∷ ys) (sent_more n xs)

drop_more : (n : ℕ) (xs : List (Option (List ℕ))) → drop 1 (drop n xs) ≡ drop (suc n) xs
drop_more zero xs = refl
drop_more (suc n) [] = refl
drop_more (suc n) (x ∷ xs) = drop_more n xs

known_more : (n : ℕ) (x : Clients) (b c : Option Clients) (is os js ps : List (List ℕ)) → (is ≡ all_sent (take n x.coming)) × (b ≡ Some (after_answers os (after_accepts n x)))
    → IfSome b (λ y. (js ≡ all_sent (take 1 y.coming)) × (c ≡ Some (after_answers ps (after_accepts 1 y))))
    → (is ++ js ≡ all_sent (take (suc n) x.coming)) × (c ≡ Some (after_answers (os ++ ps) (after_accepts (suc n) x)))
known_more n x b c is os js ps h second =
    let P : Option Clients → Type 0 = λ o. IfSome o (λ y. (js ≡ all_sent (take 1 y.coming)) × (c ≡ Some (after_answers ps (after_accepts 1 y)))) in
    let s = subst P h.1 second in
    let f : List (Option (List ℕ)) → Option Clients = λ z. Some (record { coming = z; answered = (x.answered ++ os) ++ ps }) in
    let g : List (List ℕ) → Option Clients = λ z. Some (record { coming = drop (suc n) x.coming; answered = z }) in
    (ap (λ zs. zs ++ js) h.0 ∙ ap (λ zs. all_sent (take n x.coming) ++ zs) s.0 ∙ sent_more n x.coming, s.1 ∙ ap f (drop_more n x.coming) ∙ ap g (append_assoc x.answered os ps))

known_both : (n : ℕ) (a b c : Option Clients) (is os js ps : List (List ℕ)) → IfSome a (λ x. (is ≡ all_sent (take n x.coming)) × (b ≡ Some (after_answers os (after_accepts n x))))
    → IfSome b (λ y. (js ≡ all_sent (take 1 y.coming)) × (c ≡ Some (after_answers ps (after_accepts 1 y))))
    → IfSome a (λ x. (is ++ js ≡ all_sent (take (suc n) x.coming)) × (c ≡ Some (after_answers (os ++ ps) (after_accepts (suc n) x))))
known_both n None b c is os js ps h second = tt
known_both n (Some x) b c is os js ps h second = known_more n x b c is os js ps h second

few_more : (is js : List (List ℕ)) (n : ℕ) → length is ≤ n → length js ≤ 1 → length (is ++ js) ≤ suc n
few_more is js n h k = omega (arith, length-append is js, h, k)

-- one more client after others
pub clients_more : (M P N : Says) (n : ℕ) (a b c : Option Clients)
    → ((cs : List Call) (rs : List Reply) → M cs rs → (ds : List Call) (qs : List Reply) → P ds qs → N (cs ++ ds) (rs ++ qs)) → ServesClients M n a b → ServesClients P 1 b c
    → ServesClients N (suc n) a c
clients_more M P N n a b c k first second = record {
  inputs = first.inputs ++ second.inputs;
  outputs = first.outputs ++ second.outputs;
  few = few_more first.inputs second.inputs n first.few second.few;
  each =
      each_both first.inputs first.outputs second.inputs second.outputs M N
      (λ cs rs m. each_map second.inputs second.outputs P (λ ds qs. N (cs ++ ds) (rs ++ qs)) (λ ds qs. k cs rs m ds qs) second.each) first.each;
  known = known_both n a b c first.inputs first.outputs second.inputs second.outputs first.known second.known;
}

pub clients_map : (M N : Says) (n : ℕ) (a b : Option Clients) → ((cs : List Call) (rs : List Reply) → M cs rs → N cs rs) → ServesClients M n a b → ServesClients N n a b
clients_map M N n a b k s = record { inputs = s.inputs; outputs = s.outputs; few = s.few; each = each_map s.inputs s.outputs M N k s.each; known = s.known }

-- ---- no client

same_answered : (x : Clients) → Some x ≡ Some (after_answers [] (after_accepts 0 x))
same_answered x = let f : List (List ℕ) → Option Clients = λ z. Some (record { coming = x.coming; answered = z }) in ap f (sym (append-nil x.answered))

known_nobody : (a : Option Clients) → IfSome a (λ x. ([] ≡ all_sent (take 0 x.coming)) × (a ≡ Some (after_answers [] (after_accepts 0 x))))
known_nobody None = tt
known_nobody (Some x) = (refl, same_answered x)

pub clients_none : (M : Says) (a : Option Clients) → M [] [] → ServesClients M 0 a a
clients_none M a m = record { inputs = []; outputs = []; few = lit≤ tt; each = m; known = known_nobody a }

none_sent : (xs : List (Option (List ℕ))) → next_sent xs ≡ None → [] ≡ all_sent (take 1 xs)
none_sent [] h = refl
none_sent (None ∷ xs) h = refl
none_sent (Some x ∷ xs) h = absurd (some_none x h)

known_failed : (a b : Option Clients) → IfSome a (λ x. b ≡ Some (after_accepts 1 x)) → IfSome a (λ x. next_sent x.coming ≡ None)
    → IfSome a (λ x. ([] ≡ all_sent (take 1 x.coming)) × (b ≡ Some (after_answers [] (after_accepts 1 x))))
known_failed None b taken failed = tt
known_failed (Some x) b taken failed =
    let f : List (List ℕ) → Option Clients = λ z. Some (record { coming = drop 1 x.coming; answered = z }) in (none_sent x.coming failed, taken ∙ ap f (sym (append-nil x.answered)))

-- an accept that failed
pub client_failed : (M : Says) (a b : Option Clients) → IfSome a (λ x. b ≡ Some (after_accepts 1 x)) → IfSome a (λ x. next_sent x.coming ≡ None) → M [] [] → ServesClients M 1 a b
client_failed M a b taken failed m = record { inputs = []; outputs = []; few = lit≤ tt; each = m; known = known_failed a b taken failed }

-- ---- one client

written_whole : (from to : Option (List ℕ)) (bytes : List ℕ) → from ≡ Some [] → Appends from to bytes → to ≡ Some bytes
written_whole from None bytes known h = absurd (subst (λ f. Appends f None bytes) known h)
written_whole from (Some ys) bytes known h = ap Some (subst (λ f. Appends f (Some ys) bytes) known h)

-- what was written, as the output of a client
as_output : (e : ConnectionEnd) (stop : Stop) (bytes : List ℕ) (from to : Option (List ℕ)) → Writes e stop bytes from to
    → (o : List ℕ) × Writes e stop bytes (Some []) (Some o) × (from ≡ Some [] → to ≡ Some o)
as_output e stop bytes from to (inl h) = (bytes, inl (h.0, refl), λ known. written_whole from to bytes known h.1)
as_output e stop bytes from to (inr h) = (
  h.1.front.front,
  inr (h.0, record { rest = h.1.rest; some = h.1.some; front = record { front = h.1.front.front; all = h.1.front.all; written = refl } }),
  λ known. written_whole from to h.1.front.front known h.1.front.written,
)

unread_any : (stop : Stop) (left : Option (List ℕ)) → LeavesUnread stop left → LeavesUnread stop None
unread_any input_ended left h = tt
unread_any (refused reason) left h = tt
unread_any last_served left h = tt
unread_any (read_failed unread) left h = tt
unread_any write_failed left h = tt

none_some : (x : List ℕ) → None ≡ Some x → ⊥
none_some x h = some_none x (sym h)

known_input : (next reads : Option (List ℕ)) (input : List ℕ) → IsSome next → reads ≡ next → IfSome reads (λ known. input ≡ known) → next ≡ Some input
known_input None reads input some is same = absurd (false≢true some)
known_input (Some k) reads input some is same = ap Some (sym (subst (λ (o : Option (List ℕ)). IfSome o (λ known. input ≡ known)) is same))

first_sent : (xs : List (Option (List ℕ))) (input : List ℕ) → next_sent xs ≡ Some input → input ∷ [] ≡ all_sent (take 1 xs)
first_sent [] input h = absurd (none_some input h)
first_sent (None ∷ xs) input h = absurd (none_some input h)
first_sent (Some x ∷ xs) input h = ap (λ o. all_sent (o ∷ [])) (sym h)

known_client : (a b c : Option Clients) (reads from to : Option (List ℕ)) (input o : List ℕ) → IfSome a (λ x. b ≡ Some (after_accepts 1 x))
    → IfSome a (λ x. IsSome (next_sent x.coming) × (reads ≡ next_sent x.coming) × (from ≡ Some []))
    → IfSome b (λ y. IfSome to (λ output. c ≡ Some (after_answers (output ∷ []) y))) → IfSome reads (λ known. input ≡ known) → (from ≡ Some [] → to ≡ Some o)
    → IfSome a (λ x. (input ∷ [] ≡ all_sent (take 1 x.coming)) × (c ≡ Some (after_answers (o ∷ []) (after_accepts 1 x))))
known_client None b c reads from to input o taken given closed same written = tt
known_client (Some x) b c reads from to input o taken given closed same written = (
  first_sent x.coming input (known_input (next_sent x.coming) reads input given.0 given.1 same),
  subst (λ (w : Option (List ℕ)). IfSome w (λ output. c ≡ Some (after_answers (output ∷ []) (after_accepts 1 x)))) (written given.2)
      (subst (λ (y : Option Clients). IfSome y (λ z. IfSome to (λ output. c ≡ Some (after_answers (output ∷ []) z)))) taken closed),
)

pub client_served : (M : Says) (a b c : Option Clients) (reads left from to : Option (List ℕ)) (e : ConnectionEnd) → IfSome a (λ x. b ≡ Some (after_accepts 1 x))
    → IfSome a (λ x. IsSome (next_sent x.coming) × (reads ≡ next_sent x.coming) × (from ≡ Some []))
    → IfSome b (λ y. IfSome to (λ output. c ≡ Some (after_answers (output ∷ []) y))) → OfInput reads (λ input. ServesInput M input left from to e) → ServesClients M 1 a c
client_served M a b c reads left from to e taken given closed served =
    let s = served.holds in
    let o = as_output e s.stop (due s.stop s.messages s.replies) from to s.written in record {
      inputs = served.input ∷ [];
      outputs = o.0 ∷ [];
      few = lit≤ tt;
      each = (
        e,
        record {
          messages = s.messages;
          stop = s.stop;
          has = s.has;
          replies = s.replies;
          count = s.count;
          meets = subst (λ xs. M xs (s.replies ++ [])) (sym (append-nil (calls_of s.messages))) (subst (λ ys. M (calls_of s.messages) ys) (sym (append-nil s.replies)) s.meets);
          written = o.1;
          unread = unread_any s.stop left s.unread;
        },
      );
      known = known_client a b c reads from to served.input o.0 taken given closed served.same o.2;
    }
