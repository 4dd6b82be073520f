-- From the buffer and what is read to a message, or to where there is none.
use Rattle.std.proofs.Common.{◌≡◌, ℕ, ◌-◌, ◌<◌, ◌≤◌, inl, inr, min, List, [], ◌∷◌, ◌++◌, length, take, drop, Option, refl, ap, sym, ◌∙◌, arith, append_assoc, subst, length-append, length-drop, length-take}
use Rattle.std.proofs.Math.Seq.{drop-drop, take-append_seam}
use Rattle.std.proofs.lemmas.Bool.{cases_lt}
use Rattle.std.proofs.lemmas.List.{drop_min, take_all}
use Rattle.httparse.specs.Grammar.{RequestHead, ReadsRequest, print_request}
use Rattle.httparse.specs.Spans.{RequestOverflows}
use Rattle.crush_http.specs.Head.{HeadAt, HasNoHead, IsTooLong}
use Rattle.crush_http.specs.Messages.{Message, MessageAt, IsHalf, IsRejected}
use Rattle.crush_http.specs.declared.rejection.Rejection.{Rejection}
use Rattle.crush_http.specs.declared.request.MessagePlaces.{MessagePlaces}
use Rattle.crush_http.specs.declared.limits.TheConstants.{HEAD_LIMIT, HEADER_LIMIT}
use Rattle.crush_http.specs.Private.Reading.{ReadsOn, IsRequest, IsMessageOf, IsBodyOf, used}

-- ---- heads, when more bytes come

pub HeadAt-append : (buffer : List ℕ) (head : RequestHead) (rest more : List ℕ) → HeadAt buffer head rest → HeadAt (buffer ++ more) head (rest ++ more)
HeadAt-append buffer head rest more h = record {
  reads = (h.reads.0, ap (λ xs. xs ++ more) h.reads.1 ∙ append_assoc (print_request head) rest more);
  bytes = h.bytes;
  headers = h.headers;
}

overflows-append : (room : ℕ) (buffer more : List ℕ) → RequestOverflows room buffer → RequestOverflows room (buffer ++ more)
overflows-append room buffer more h = λ again head rest reads. h (more ++ again) head rest (reads.0, sym (append_assoc buffer more again) ∙ reads.1)

-- a front that is long enough for a text is the text and more
front_of : (xs ys text rest : List ℕ) → xs ++ ys ≡ text ++ rest → length text ≤ length xs → (more : List ℕ) × (xs ≡ text ++ more)
front_of xs ys [] rest e h = (xs, refl)
front_of [] ys (t ∷ text) rest e h = absurd (omega arith)
front_of (x ∷ xs) ys (t ∷ text) rest e h =
    let tails : xs ++ ys ≡ text ++ rest = cc in
    let heads : x ≡ t = cc in
    let found = front_of xs ys text rest tails (omega arith) in
    (found.0, λ i. heads i ∷ found.1 i)

too_long-append : (buffer more : List ℕ) → IsTooLong buffer → IsTooLong (buffer ++ more)
too_long-append buffer more h = record {
  many = omega (arith, h.many, length-append buffer more);
  none = λ head rest reads. over head rest reads;
}
  where
    within : (head : RequestHead) (rest : List ℕ) → ReadsRequest (buffer ++ more) head rest → length (print_request head) ≤ HEAD_LIMIT → HEAD_LIMIT < length (print_request head)
    within head rest reads few =
        let found = front_of buffer more (print_request head) rest reads.1 (omega (arith, few, h.many)) in
        h.none head found.0 (reads.0, found.1)

    over : (head : RequestHead) (rest : List ℕ) → ReadsRequest (buffer ++ more) head rest → HEAD_LIMIT < length (print_request head)
    over head rest reads = elim (cases_lt HEAD_LIMIT (length (print_request head))) [ inl long ↦ long | inr few ↦ within head rest reads few ]

no_head-append : (buffer more : List ℕ) → HasNoHead buffer → HasNoHead (buffer ++ more)
no_head-append buffer more (inl h) = inl (overflows-append HEADER_LIMIT buffer more h)
no_head-append buffer more (inr h) = inr (too_long-append buffer more h)

-- what is rejected stays rejected when more bytes come
pub rejected-append : (input more : List ℕ) (reason : Rejection) → IsRejected input reason → IsRejected (input ++ more) reason
rejected-append input more reason (inl none) = inl (no_head-append input more none.0, none.1)
rejected-append input more reason (inr wrong) = inr (record {
  head = wrong.head;
  after = wrong.after ++ more;
  begins = HeadAt-append input wrong.head wrong.after more wrong.begins;
  is = wrong.is;
})

pub MessageAt-append : (most : ℕ) (input more : List ℕ) (m : Message) (rest : List ℕ) → MessageAt most input m rest → MessageAt most (input ++ more) m (rest ++ more)
MessageAt-append most input more m rest h = record {
  head = h.head;
  body = h.body;
  begins = subst (HeadAt (input ++ more) h.head) (append_assoc h.body rest more) (HeadAt-append input h.head (h.body ++ rest) more h.begins);
  size = h.size;
  is = h.is;
}

-- ---- a body in the buffer, and what was read after it

-- too few bytes for the body
pub half_body : (buffer : List ℕ) (r : MessagePlaces) (head : RequestHead) (n : ℕ) (first : List ℕ) (b c : Option (List ℕ)) → IsRequest buffer r head → first ≡ drop r.len buffer → n ≡ r.size
    → ReadsOn first b c (λ all. length all < n) → ReadsOn buffer b c IsHalf
half_body buffer r head n first b c is e f read = record {
  more = read.more;
  taken = read.taken;
  holds = inr (record {
    head = head;
    after = drop r.len buffer ++ read.more;
    size = r.size;
    begins = HeadAt-append buffer head (drop r.len buffer) read.more is.begins;
    is = is.size;
    few = subst (λ k. length (drop r.len buffer ++ read.more) < k) f (subst (λ xs. length (xs ++ read.more) < n) e read.holds);
  });
}

-- the whole body
pub whole_body : (buffer : List ℕ) (r : MessagePlaces) (head : RequestHead) (first body room : List ℕ) (b c : Option (List ℕ)) → IsRequest buffer r head → first ≡ drop r.len buffer
    → length body ≡ r.size → take r.size room ≡ body → r.size ≤ length room → ReadsOn first b c (IsBodyOf body first) → ReadsOn buffer b c (IsMessageOf buffer r room)
whole_body buffer r head first body room b c is e long front within read = record {
  more = read.more;
  taken = read.taken;
  holds = record {
    head = head;
    is = is;
    begins =
        subst (HeadAt (buffer ++ read.more) head) (ap (λ xs. xs ++ read.more) (sym e) ∙ read.holds ∙ (λ i. front_is i ++ rest_is i))
        (HeadAt-append buffer head (drop r.len buffer) read.more is.begins);
    long = within;
  };
}
  where
    front_is : body ≡ take r.size room
    front_is = sym front

    rest_is : drop (length body) first ≡ drop (used r (length buffer)) buffer
    rest_is =
        let size : length (drop r.len buffer) ≡ length buffer - r.len = length-drop r.len buffer in
        ap (λ n. drop n first) long ∙ ap (drop r.size) e ∙ sym (drop_min r.size (drop r.len buffer)) ∙ ap (λ k. drop (min r.size k) (drop r.len buffer)) size
        ∙ drop-drop (min r.size (length buffer - r.len)) r.len buffer

-- ---- slices

-- the bytes that follow the head
pub behind : (len : ℕ) (xs ys : List ℕ) → xs ≡ ys → take (length xs - len) (drop len xs) ≡ drop len ys
behind len xs ys e = take_all (length xs - len) (drop len xs) (omega (arith, length-drop len xs)) ∙ ap (drop len) e

-- the room for a body
pub room_long : (n : ℕ) (room : List ℕ) → n ≤ length room → length (take n room) ≡ n
room_long n room h = omega (arith, length-take n room)

-- a body in the front of its room
pub room_front : (n : ℕ) (body room : List ℕ) → length body ≡ n → take n (body ++ room) ≡ body
room_front n body room e = ap (λ k. take k (body ++ room)) (sym e) ∙ take-append_seam body room
