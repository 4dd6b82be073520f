-- Bytes that are held, after those that were written.
use Rattle.std.proofs.Common.{◌≡◌, ℕ, ◌+◌, ◌<◌, suc, List, [], ◌∷◌, ◌++◌, length, take, drop, get_or, Option, ap, sym, ◌∙◌, append_assoc, subst}
use Rattle.std.proofs.Math.Seq.{drop-cons}
use Rattle.std.proofs.lemmas.Grind.{flat_map-append}
use Rattle.std.proofs.lemmas.List.{append-nil, take-append-drop, take_more}
use Rattle.std.specs.Io.KnownBytes.{Appends}
use Rattle.std.specs.List.{flat_map}
use Rattle.tenant_service.specs.Writing.{AppendsPart, AppendsUpTo}
use Rattle.tenant_service.proofs.Written.{appends_both, part_first}

-- ---- what was held, and then on from there

pub up_to_on : (a b c : Option (List ℕ)) (held now xs ys : List ℕ) → AppendsUpTo held a b xs → AppendsUpTo now b c (held ++ ys) → AppendsUpTo now a c (xs ++ ys)
up_to_on a b c held now xs ys first then = record {
  front = first.front ++ then.front;
  all = append_assoc first.front then.front now ∙ ap (λ zs. first.front ++ zs) then.all ∙ sym (append_assoc first.front held ys) ∙ ap (λ zs. zs ++ ys) first.all;
  written = appends_both a b c first.front then.front first.written then.written;
}

pub part_on : (a b c : Option (List ℕ)) (held xs ys : List ℕ) → AppendsUpTo held a b xs → AppendsPart b c (held ++ ys) → AppendsPart a c (xs ++ ys)
part_on a b c held xs ys first part = record { rest = part.rest; some = part.some; front = up_to_on a b c held part.rest xs ys first part.front }

-- all that was held is written
pub up_to_written : (a b c : Option (List ℕ)) (held xs : List ℕ) → AppendsUpTo held a b xs → Appends b c held → Appends a c xs
up_to_written a b c held xs first then = subst (Appends a c) first.all (appends_both a b c first.front held first.written then)

-- a part of what was held is written
pub part_written : (a b c : Option (List ℕ)) (held xs : List ℕ) → AppendsUpTo held a b xs → AppendsPart b c held → AppendsPart a c xs
part_written a b c held xs first part =
    subst (AppendsPart a c) (append-nil xs) (part_on a b c held xs [] first (subst (AppendsPart b c) (sym (append-nil held)) part))

-- what was held is written, and then the bytes
pub written_after : (a b c : Option (List ℕ)) (old now bytes : List ℕ) → Appends a b old → now ≡ [] → Appends b c bytes → AppendsUpTo now a c (old ++ bytes)
written_after a b c old now bytes first none then = record {
  front = old ++ bytes;
  all = ap (λ zs. (old ++ bytes) ++ zs) none ∙ append-nil (old ++ bytes);
  written = appends_both a b c old bytes first then;
}

-- ---- pieces after what is held

pieces_at : {X : Type 0} (f : X → List ℕ) (xs : List X) (i : ℕ) (d : X) → i < length xs
    → flat_map f (take i xs) ++ (f (get_or xs i d) ++ flat_map f (drop (suc i) xs)) ≡ flat_map f xs
pieces_at f xs i d h =
    ap (λ ys. flat_map f (take i xs) ++ flat_map f ys) (sym (drop-cons xs i d h)) ∙ sym (flat_map-append f (take i xs) (drop i xs)) ∙ ap (flat_map f) (take-append-drop i xs)

pieces_next : {X : Type 0} (f : X → List ℕ) (xs : List X) (i : ℕ) (d : X) → i < length xs → flat_map f (take (i + 1) xs) ≡ flat_map f (take i xs) ++ f (get_or xs i d)
pieces_next f xs i d h =
    ap (flat_map f) (take_more xs i d h) ∙ flat_map-append f (take i xs) (get_or xs i d ∷ []) ∙ ap (λ zs. flat_map f (take i xs) ++ zs) (append-nil (f (get_or xs i d)))

-- the piece at i, after those before it
pub put_piece : {X : Type 0} (f : X → List ℕ) (xs : List X) (i : ℕ) (d : X) (a b c : Option (List ℕ)) (old held now : List ℕ) → i < length xs → AppendsUpTo held a b (old ++ flat_map f (take i xs))
    → AppendsUpTo now b c (held ++ f (get_or xs i d)) → AppendsUpTo now a c (old ++ flat_map f (take (i + 1) xs))
put_piece f xs i d a b c old held now h before one =
    subst (AppendsUpTo now a c) (append_assoc old (flat_map f (take i xs)) (f (get_or xs i d)) ∙ ap (λ zs. old ++ zs) (sym (pieces_next f xs i d h)))
    (up_to_on a b c held now (old ++ flat_map f (take i xs)) (f (get_or xs i d)) before one)

-- the piece at i in part, after those before it
pub part_piece : {X : Type 0} (f : X → List ℕ) (xs : List X) (i : ℕ) (d : X) (a b c : Option (List ℕ)) (old held : List ℕ) → i < length xs → AppendsUpTo held a b (old ++ flat_map f (take i xs))
    → AppendsPart b c (held ++ f (get_or xs i d)) → AppendsPart a c (old ++ flat_map f xs)
part_piece f xs i d a b c old held h before part =
    let rest = flat_map f (drop (suc i) xs) in
    let all : (old ++ flat_map f (take i xs)) ++ (f (get_or xs i d) ++ rest) ≡ old ++ flat_map f xs =
    append_assoc old (flat_map f (take i xs)) (f (get_or xs i d) ++ rest) ∙ ap (λ zs. old ++ zs) (pieces_at f xs i d h) in
    subst (AppendsPart a c) all
    (part_on a b c held (old ++ flat_map f (take i xs)) (f (get_or xs i d) ++ rest) before
    (subst (AppendsPart b c) (append_assoc held (f (get_or xs i d)) rest) (part_first b c (held ++ f (get_or xs i d)) rest part)))
