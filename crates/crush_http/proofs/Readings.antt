-- Two readings of one input are the same.
use Rattle.std.proofs.Common.{◌≡◌, ℕ, ◌-◌, ◌<◌, ◌⊎◌, inl, inr, Bool, true, false, List, [], ◌∷◌, ◌++◌, length, refl, ap, sym, ◌∙◌, arith, subst, length-append}
use Rattle.std.proofs.lemmas.List.{append-nil}
use Rattle.httparse.specs.Grammar.{RequestHead, print_request}
use Rattle.httparse.proofs.GrammarLemmas.{request_unique}
use Rattle.crush_http.specs.Head.{HeadAt, HasNoHead, IsHalfHead}
use Rattle.crush_http.specs.Headers.{headers_of, size_of, bytes, rejected}
use Rattle.crush_http.specs.Messages.{Message, MessageAt, message_of, Stop, input_ended, refused, last_served, read_failed, write_failed, StopsAt, HasMessages, GoesOn, IsOver, IsHalf, IsRejected}
use Rattle.crush_http.specs.Laws.{IsOfInput, IsOfFault, IsUndecided, EndsUndecided}
use Rattle.crush_http.specs.declared.rejection.Rejection.{Rejection}
use Rattle.crush_http.specs.declared.limits.TheConstants.{HEAD_LIMIT, HEADER_LIMIT}

-- ---- one head

same_head : (input : List ℕ) (h k : RequestHead) (r q : List ℕ) → HeadAt input h r → HeadAt input k q → (h ≡ k) × (r ≡ q)
same_head input h k r q a b = request_unique input h k r q a.reads b.reads

not_none : (input : List ℕ) (h : RequestHead) (r : List ℕ) → HeadAt input h r → HasNoHead input → ⊥
not_none input h r a (inl over) =
    let many : HEADER_LIMIT < length h.fields = over [] h r (a.reads.0, append-nil input ∙ a.reads.1) in
    omega (arith, many, a.headers)
not_none input h r a (inr long) =
    let many : HEAD_LIMIT < length (print_request h) = long.none h r a.reads in
    omega (arith, many, a.bytes)

not_half : (input : List ℕ) (h : RequestHead) (r : List ℕ) → HeadAt input h r → IsHalfHead input → ⊥
not_half input h r a half = half.none h r a.reads

-- ---- one message

split : (xs ys r q : List ℕ) → length xs ≡ length ys → xs ++ r ≡ ys ++ q → (xs ≡ ys) × (r ≡ q)
split [] [] r q size e = (refl, e)
split [] (y ∷ ys) r q size e = absurd (omega arith)
split (x ∷ xs) [] r q size e = absurd (omega arith)
split (x ∷ xs) (y ∷ ys) r q size e =
    let heads : x ≡ y = cc in
    let tails : xs ++ r ≡ ys ++ q = cc in
    let rest = split xs ys r q (omega arith) tails in
    (λ i. heads i ∷ rest.0 i, rest.1)

same_message : (most : ℕ) (input : List ℕ) (m n : Message) (r q : List ℕ) → MessageAt most input m r → MessageAt most input n q → (m ≡ n) × (r ≡ q)
same_message most input m n r q a b =
    let same = same_head input a.head b.head (a.body ++ r) (b.body ++ q) a.begins b.begins in
    let sizes : bytes (length a.body) ≡ bytes (length b.body) = sym a.size ∙ ap (λ h. size_of (headers_of h)) same.0 ∙ b.size in
    let size : length a.body ≡ length b.body = cc in
    let parts = split a.body b.body r q size same.1 in
    (a.is ∙ (λ i. message_of most (same.0 i) (parts.0 i)) ∙ sym b.is, parts.1)

-- ---- a message or a stop

whole_or_half : (most : ℕ) (input : List ℕ) (m : Message) (r : List ℕ) → MessageAt most input m r → IsHalf input → ⊥
whole_or_half most input m r a (inl half) = not_half input a.head (a.body ++ r) a.begins half
whole_or_half most input m r a (inr half) =
    let same = same_head input a.head half.head (a.body ++ r) half.after a.begins half.begins in
    let sizes : bytes (length a.body) ≡ bytes half.size = sym a.size ∙ ap (λ h. size_of (headers_of h)) same.0 ∙ half.is in
    let size : length a.body ≡ half.size = cc in
    omega (arith, size, half.few, ap length same.1, length-append a.body r)

whole_or_rejected : (most : ℕ) (input : List ℕ) (m : Message) (r : List ℕ) (reason : Rejection) → MessageAt most input m r → IsRejected input reason → ⊥
whole_or_rejected most input m r reason a (inl none) = not_none input a.head (a.body ++ r) a.begins none.0
whole_or_rejected most input m r reason a (inr wrong) =
    let same = same_head input a.head wrong.head (a.body ++ r) wrong.after a.begins wrong.begins in
    let sizes : bytes (length a.body) ≡ rejected reason = sym a.size ∙ ap (λ h. size_of (headers_of h)) same.0 ∙ wrong.is in
    cc

never_both : (most : ℕ) (input : List ℕ) (m : Message) (r : List ℕ) (s : Stop) → MessageAt most input m r → StopsAt s input → IsOfInput s → ⊥
never_both most input m r input_ended a h u = whole_or_half most input m r a h
never_both most input m r (refused reason) a h u = whole_or_rejected most input m r reason a h
never_both most input m r last_served a h u = absurd h
never_both most input m r (read_failed w) a h u = absurd u
never_both most input m r write_failed a h u = absurd u

-- ---- one stop

half_or_rejected : (input : List ℕ) (reason : Rejection) → IsHalf input → IsRejected input reason → IsUndecided input
half_or_rejected input reason (inl half) (inl (inl over, is)) = (half, over)
half_or_rejected input reason (inl half) (inl (inr long, is)) = absurd (omega (arith, half.few, long.many))
half_or_rejected input reason (inl half) (inr wrong) = absurd (not_half input wrong.head wrong.after wrong.begins half)
half_or_rejected input reason (inr half) (inl none) = absurd (not_none input half.head half.after half.begins none.0)
half_or_rejected input reason (inr half) (inr wrong) =
    let same = same_head input half.head wrong.head half.after wrong.after half.begins wrong.begins in
    let sizes : bytes half.size ≡ rejected reason = sym half.is ∙ ap (λ h. size_of (headers_of h)) same.0 ∙ wrong.is in
    cc

one_rejection : (input : List ℕ) (p q : Rejection) → IsRejected input p → IsRejected input q → p ≡ q
one_rejection input p q (inl a) (inl b) = a.1 ∙ sym b.1
one_rejection input p q (inl a) (inr b) = absurd (not_none input b.head b.after b.begins a.0)
one_rejection input p q (inr a) (inl b) = absurd (not_none input a.head a.after a.begins b.0)
one_rejection input p q (inr a) (inr b) =
    let same = same_head input a.head b.head a.after b.after a.begins b.begins in
    let sizes : rejected p ≡ rejected q = sym a.is ∙ ap (λ h. size_of (headers_of h)) same.0 ∙ b.is in
    cc

one_stop : (input : List ℕ) (s t : Stop) → StopsAt s input → StopsAt t input → IsOfInput s → IsOfInput t → (s ≡ t) ⊎ IsUndecided input
one_stop input input_ended input_ended a b u v = inl refl
one_stop input input_ended (refused q) a b u v = inr (half_or_rejected input q a b)
one_stop input (refused p) input_ended a b u v = inr (half_or_rejected input p b a)
one_stop input (refused p) (refused q) a b u v = inl (ap (λ x. refused x) (one_rejection input p q a b))
one_stop input last_served t a b u v = absurd a
one_stop input write_failed t a b u v = absurd u
one_stop input (read_failed w) t a b u v = absurd u
one_stop input input_ended last_served a b u v = absurd b
one_stop input input_ended write_failed a b u v = absurd v
one_stop input input_ended (read_failed w) a b u v = absurd v
one_stop input (refused p) last_served a b u v = absurd b
one_stop input (refused p) write_failed a b u v = absurd v
one_stop input (refused p) (read_failed w) a b u v = absurd v

-- ---- all

-- after the last message
over_one : (ms ns : List Message) (s t : Stop) → IsOver ms s → IsOver ns t → IsOfInput s → IsOfInput t → (ms ≡ ns) × (s ≡ t)
over_one [] [] last_served last_served a b u v = (refl, refl)
over_one [] [] last_served write_failed a b u v = absurd v
over_one [] [] last_served (read_failed w) a b u v = absurd v
over_one [] [] last_served input_ended a b u v = absurd b
over_one [] [] last_served (refused q) a b u v = absurd b
over_one [] [] (read_failed w) t a b u v = absurd u
over_one [] [] write_failed t a b u v = absurd u
over_one [] [] input_ended t a b u v = absurd a
over_one [] [] (refused p) t a b u v = absurd a
over_one (m ∷ ms) ns s t a b u v = absurd a
over_one [] (n ∷ ns) s t a b u v = absurd b

further_on : {P Q R : Type 0} → (Q → R) → P ⊎ Q → P ⊎ R
further_on f (inl p) = inl p
further_on f (inr h) = inr (f h)

-- the messages that follow the same message
goes_on_one : (d e : Bool) (ms ns : List Message) (s t : Stop) (Q A B : Type 0) → d ≡ e → (A → B → (ms ≡ ns) × ((s ≡ t) ⊎ Q))
    → GoesOn d ms s A → GoesOn e ns t B → IsOfInput s → IsOfInput t → (ms ≡ ns) × ((s ≡ t) ⊎ Q)
goes_on_one true true ms ns s t Q A B same more a b u v = let one = over_one ms ns s t a b u v in (one.0, inl one.1)
goes_on_one true false ms ns s t Q A B same more a b u v = cc
goes_on_one false true ms ns s t Q A B same more a b u v = cc
goes_on_one false false ms ns s t Q A B same more a b u v = more a b

pub reading : (most : ℕ) (input : List ℕ) (ms ns : List Message) (s t : Stop) → HasMessages most input ms s → HasMessages most input ns t → IsOfInput s → IsOfInput t
    → (ms ≡ ns) × ((s ≡ t) ⊎ EndsUndecided most input ms)
reading most input [] [] s t a b u v = (refl, one_stop input s t a b u v)
reading most input [] (n ∷ ns) s t a b u v = absurd (never_both most input n b.0 s b.1 a u)
reading most input (m ∷ ms) [] s t a b u v = absurd (never_both most input m a.0 t a.1 b v)
reading most input (m ∷ ms) (n ∷ ns) s t a b u v =
    let same = same_message most input m n a.0 b.0 a.1 b.1 in
    let rest = goes_on_one m.last n.last ms ns s t (EndsUndecided (most - 1) a.0 ms) (HasMessages (most - 1) a.0 ms s) (HasMessages (most - 1) b.0 ns t) (ap (λ k. k.last) same.0)
    (λ x y. reading (most - 1) a.0 ms ns s t x (subst (λ q. HasMessages (most - 1) q ns t) (sym same.1) y) u v) a.2 b.2 u v in
    (λ i. same.0 i ∷ rest.0 i, further_on (λ h. (a.0, a.1, h)) rest.1)

-- ---- up to a fault

front_over : (ms ns : List Message) (s t : Stop) → IsOver ms s → IsOver ns t → IsOfFault s → (more : List Message) × (ms ++ more ≡ ns)
front_over [] ns s t a b f = (ns, refl)
front_over (m ∷ ms) ns s t a b f = absurd a

goes_on_front : (d e : Bool) (ms ns : List Message) (s t : Stop) (A B : Type 0) → d ≡ e → (A → B → (more : List Message) × (ms ++ more ≡ ns)) → GoesOn d ms s A → GoesOn e ns t B → IsOfFault s
    → (more : List Message) × (ms ++ more ≡ ns)
goes_on_front true true ms ns s t A B same more a b f = front_over ms ns s t a b f
goes_on_front true false ms ns s t A B same more a b f = cc
goes_on_front false true ms ns s t A B same more a b f = cc
goes_on_front false false ms ns s t A B same more a b f = more a b

pub front_reading : (most : ℕ) (input : List ℕ) (ms ns : List Message) (s t : Stop) → HasMessages most input ms s → HasMessages most input ns t → IsOfFault s → IsOfInput t
    → (more : List Message) × (ms ++ more ≡ ns)
front_reading most input [] ns s t a b f u = (ns, refl)
front_reading most input (m ∷ ms) [] s t a b f u = absurd (never_both most input m a.0 t a.1 b u)
front_reading most input (m ∷ ms) (n ∷ ns) s t a b f u =
    let same = same_message most input m n a.0 b.0 a.1 b.1 in
    let rest = goes_on_front m.last n.last ms ns s t (HasMessages (most - 1) a.0 ms s) (HasMessages (most - 1) b.0 ns t) (ap (λ k. k.last) same.0)
    (λ x y. front_reading (most - 1) a.0 ms ns s t x (subst (λ q. HasMessages (most - 1) q ns t) (sym same.1) y) f u) a.2 b.2 f in
    (rest.0, λ i. same.0 i ∷ rest.1 i)
