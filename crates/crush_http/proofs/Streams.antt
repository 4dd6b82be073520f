-- What is taken from a reader, from call to call.
use Rattle.std.proofs.Common.{◌≡◌, ℕ, ◌+◌, ◌-◌, ◌≤◌, ◌<◌, List, [], ◌∷◌, ◌++◌, length, take, drop, Option, Some, None, refl, ap, sym, ◌∙◌, arith, append_assoc, length-take, length-drop, subst}
use Rattle.std.proofs.lemmas.List.{append-nil, take-append-le, drop-take, drop-append-le}
use Rattle.std.proofs.Math.Seq.{take-append-add, take-append_seam}
use Rattle.std.specs.Io.KnownBytes.{Keeps, Consumes}
use Rattle.crush_http.specs.Private.Reading.{ReadsOn}

-- ---- readers

pub consumes_none : (a : Option (List ℕ)) → Consumes a a []
consumes_none None = tt
consumes_none (Some xs) = refl

pub consumes_kept : (a b : Option (List ℕ)) → Keeps a b → Consumes a b []
consumes_kept None b kept = tt
consumes_kept (Some xs) None kept = absurd kept
consumes_kept (Some xs) (Some ys) kept = sym kept

pub consumes_both : (a b c : Option (List ℕ)) (xs ys : List ℕ) → Consumes a b xs → Consumes b c ys → Consumes a c (xs ++ ys)
consumes_both None b c xs ys p q = tt
consumes_both (Some u) None c xs ys p q = absurd p
consumes_both (Some u) (Some v) None xs ys p q = absurd q
consumes_both (Some u) (Some v) (Some w) xs ys p q = p ∙ ap (λ l. xs ++ l) q ∙ sym (append_assoc xs ys w)

-- ---- bytes that were there, and those that were read after them

-- first to a buffer, and then on from it
pub reads_both : (there buffer : List ℕ) (a b c : Option (List ℕ)) (P : List ℕ → Type 0) → ReadsOn there a b (λ all. buffer ≡ all) → ReadsOn buffer b c P → ReadsOn there a c P
reads_both there buffer a b c P first second = record {
  more = first.more ++ second.more;
  taken = consumes_both a b c first.more second.more first.taken second.taken;
  holds = subst P (ap (λ l. l ++ second.more) first.holds ∙ append_assoc there first.more second.more) second.holds;
}

-- from a reader with no unread byte
read_nothing : (a b : Option (List ℕ)) (more : List ℕ) → a ≡ Some [] → Consumes a b more → more ≡ []
read_nothing None b more e taken = cc
read_nothing (Some xs) None more e taken = absurd taken
read_nothing (Some xs) (Some ys) [] e taken = refl
read_nothing (Some xs) (Some ys) (m ∷ more) e taken = cc

pub reads_nothing : (there buffer : List ℕ) (a b : Option (List ℕ)) → ReadsOn there a b (λ all. buffer ≡ all) → a ≡ Some [] → buffer ≡ there
reads_nothing there buffer a b read e = read.holds ∙ ap (λ l. there ++ l) (read_nothing a b read.more e read.taken) ∙ append-nil there

-- ---- the buffer

-- the front of a buffer that was filled further
filled_front : (k n : ℕ) (xs ys post : List ℕ) → k ≤ length xs → n ≤ length ys → take (k + n) (take k xs ++ (ys ++ post)) ≡ take k xs ++ take n ys
filled_front k n xs ys post h g =
    let size : length (take k xs) ≡ k = omega (arith, length-take k xs) in
    ap (λ m. take (m + n) (take k xs ++ (ys ++ post))) (sym size) ∙ take-append-add (take k xs) (ys ++ post) n ∙ ap (λ zs. take k xs ++ zs) (take-append-le n ys post g)

-- the same, where the whole was cut to its own length
pub filled_in : (k n len : ℕ) (xs ys post more : List ℕ) → k ≤ length xs → n ≤ length ys → length (take k xs ++ (ys ++ post)) ≡ len
    → take (k + n) (take len ((take k xs ++ (ys ++ post)) ++ more)) ≡ take k xs ++ take n ys
filled_in k n len xs ys post more h g size =
    let whole : take len ((take k xs ++ (ys ++ post)) ++ more) ≡ take k xs ++ (ys ++ post) =
    ap (λ m. take m ((take k xs ++ (ys ++ post)) ++ more)) (sym size) ∙ take-append_seam (take k xs ++ (ys ++ post)) more in
    ap (take (k + n)) whole ∙ filled_front k n xs ys post h g

-- a read into the buffer
pub reads_in : (a b : Option (List ℕ)) (n : ℕ) (there bytes now : List ℕ) → Consumes a b (take n bytes) → now ≡ there ++ take n bytes → ReadsOn there a b (λ all. now ≡ all)
reads_in a b n there bytes now taken e = record { more = take n bytes; taken = taken; holds = e }

-- what remains when the first n bytes of k are dropped
pub dropped : (k n : ℕ) (xs post : List ℕ) → n ≤ k → k ≤ length xs → take (k - n) (take (k - n) (drop n xs) ++ post) ≡ drop n (take k xs)
dropped k n xs post h g =
    let size : length (take (k - n) (drop n xs)) ≡ k - n = omega (arith, length-take (k - n) (drop n xs), length-drop n xs) in
    let whole : take (k - n) (take (k - n) (drop n xs) ++ post) ≡ take (k - n) (drop n xs) =
    ap (λ m. take m (take (k - n) (drop n xs) ++ post)) (sym size) ∙ take-append_seam (take (k - n) (drop n xs)) post in
    let sum : n + (k - n) ≡ k = omega arith in
    whole ∙ sym (drop-take n (k - n) xs) ∙ ap (λ m. drop n (take m xs)) sum

-- ---- a body

-- what a read took follows what was taken before
pub consumes_filled : (a b c : Option (List ℕ)) (start k n : ℕ) (xs ys post : List ℕ) → start ≤ k → k ≤ length xs → n ≤ length ys → Consumes a b (drop start (take k xs)) → Consumes b c (take n ys)
    → Consumes a c (drop start (take (k + n) (take k xs ++ (ys ++ post))))
consumes_filled a b c start k n xs ys post h g f before more =
    let long : start ≤ length (take k xs) = omega (arith, length-take k xs) in
    let e : drop start (take (k + n) (take k xs ++ (ys ++ post))) ≡ drop start (take k xs) ++ take n ys =
    ap (drop start) (filled_front k n xs ys post g f) ∙ drop-append-le start (take k xs) (take n ys) long in
    subst (Consumes a c) (sym e) (consumes_both a b c (drop start (take k xs)) (take n ys) before more)

-- fewer bytes were taken than the body has
pub few_filled : (a b c : Option (List ℕ)) (start filled n : ℕ) (body : List ℕ) → length body ≡ n → start ≤ filled → filled < length body → Consumes a b (drop start (take filled body)) → Consumes b c []
    → (more : List ℕ) × Consumes a c more × (start + length more < n)
few_filled a b c start filled n body size h f taken none = (
  drop start (take filled body),
  subst (Consumes a c) (append-nil (drop start (take filled body))) (consumes_both a b c (drop start (take filled body)) [] taken none),
  omega (arith, length-drop start (take filled body), length-take filled body, size, h, f),
)
