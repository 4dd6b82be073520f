-- What is written in pieces.
use Rattle.std.proofs.Common.{◌≡◌, ℕ, ◌-◌, ◌<◌, List, [], ◌++◌, length, take, drop, Option, Some, None, ap, sym, ◌∙◌, arith, append_assoc, length-append, length-drop}
use Rattle.std.proofs.lemmas.List.{take_all, append-nil, take-append-drop}
use Rattle.std.specs.Io.KnownBytes.{Appends}
use Rattle.tenant_service.specs.Writing.{AppendsUpTo, AppendsPart}

-- ---- all of the bytes

pub appends_none : (a : Option (List ℕ)) → Appends a a []
appends_none None = tt
appends_none (Some us) = sym (append-nil us)

pub appends_both : (a b c : Option (List ℕ)) (xs ys : List ℕ) → Appends a b xs → Appends b c ys → Appends a c (xs ++ ys)
appends_both None b c xs ys first second = tt
appends_both (Some us) None c xs ys first second = absurd first
appends_both (Some us) (Some vs) None xs ys first second = absurd second
appends_both (Some us) (Some vs) (Some ws) xs ys first second = rw (second, first) (append_assoc us xs ys)

-- ---- up to a rest

-- a write of the first n bytes of the rest
pub up_to_more : (a b c : Option (List ℕ)) (bytes rest : List ℕ) (n : ℕ) → AppendsUpTo rest a b bytes → Appends b c (take n rest)
    → AppendsUpTo (take (length rest - n) (drop n rest)) a c bytes
up_to_more a b c bytes rest n before more =
    let left : take (length rest - n) (drop n rest) ≡ drop n rest = take_all (length rest - n) (drop n rest) (omega (arith, length-drop n rest)) in
    record {
      front = before.front ++ take n rest;
      all = rw left (append_assoc before.front (take n rest) (drop n rest) ∙ ap (λ xs. before.front ++ xs) (take-append-drop n rest) ∙ before.all);
      written = appends_both a b c before.front (take n rest) before.written more;
    }

-- ---- in part

length-some : (rest more : List ℕ) → 0 < length rest → 0 < length (rest ++ more)
length-some rest more h = simp length-append (omega arith)

-- the first piece in part
pub part_first : (a b : Option (List ℕ)) (xs ys : List ℕ) → AppendsPart a b xs → AppendsPart a b (xs ++ ys)
part_first a b xs ys part = record {
  rest = part.rest ++ ys;
  some = length-some part.rest ys part.some;
  front = record {
    front = part.front.front;
    all = sym (append_assoc part.front.front part.rest ys) ∙ ap (λ zs. zs ++ ys) part.front.all;
    written = part.front.written;
  };
}

-- the first piece, and the next in part
pub part_after : (a b c : Option (List ℕ)) (xs ys : List ℕ) → Appends a b xs → AppendsPart b c ys → AppendsPart a c (xs ++ ys)
part_after a b c xs ys whole part = record {
  rest = part.rest;
  some = part.some;
  front = record {
    front = xs ++ part.front.front;
    all = append_assoc xs part.front.front part.rest ∙ ap (λ zs. xs ++ zs) part.front.all;
    written = appends_both a b c xs part.front.front whole part.front.written;
  };
}
