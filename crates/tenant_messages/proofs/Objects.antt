-- An object that has as many keys as are named, and each of them, has exactly the keys named.
use Rattle.std.proofs.Common.{◌≡◌, ◌⊎◌, inl, inr, ℕ, suc, ◌&&◌, ◌||◌, List, [], ◌∷◌, ◌++◌, length, Bool, true, false, not, Some, is_some, Ordering, Less, Equal, Greater, is_eq, nat_cmp, bytes_eq, refl, sym, ap, subst, ◌∙◌, arith, length-append}
use Rattle.std.proofs.lemmas.Bool.Decides.{Decides-eqb}
use Rattle.std.proofs.lemmas.List.Sorted.{IsPermutation-refl, IsPermutation-cons, IsPermutation-middle, IsPermutation-sym, IsPermutation-trans, length_permutation}
use Rattle.std.proofs.lemmas.Map.Text.{is_eq-slice_cmp}
use Rattle.std.proofs.lemmas.Slice.Eq.{bytes_eq-Decides}
use Rattle.std.specs.Cmp.Lexicographic.{slice_cmp}
use Rattle.std.specs.List.{list_any}
use Rattle.std.specs.List.Sorted.{IsPermutation}
use Rattle.std.specs.Ordering.{match_ordering}
use Rattle.serde_json.specs.Data.{Data, null, boolean, number, string, array, object, Members, no_members, member}
use Rattle.serde_json.specs.Events.{members_len}
use Rattle.serde_json.specs.Find.{get, get_member}
use Rattle.tenant_messages.specs.Forms.{keys_in, HasExactly}
use Rattle.tenant_messages.specs.Json.{has_keys}

abbrev pub Among : List ℕ → List (List ℕ) → Type 0
Among key [] = ⊥
Among key (other ∷ others) = (key ≡ other) ⊎ Among key others

abbrev AllAmong : List (List ℕ) → List (List ℕ) → Type 0
AllAmong [] names = Unit {0}
AllAmong (key ∷ keys) names = Among key names × AllAmong keys names

-- no key is named twice
abbrev pub are_different : List (List ℕ) → Bool
are_different [] = true
are_different (key ∷ keys) = not (list_any (bytes_eq key) keys) && are_different keys

-- ---- a key that is found is a key of the object

among_at : (o : Ordering) (k l : List ℕ) (e : Data) (ms : Members) → slice_cmp nat_cmp k l ≡ o → is_some (match_ordering o (get_member k ms) (Some e) (get_member k ms)) ≡ true
    → (is_some (get_member k ms) ≡ true → Among k (keys_in ms)) → Among k (l ∷ keys_in ms)
among_at Less k l e ms is found later = inr (later found)
among_at Equal k l e ms is found later = inl ((bytes_eq-Decides k l).0 (sym (is_eq-slice_cmp k l) ∙ ap is_eq is))
among_at Greater k l e ms is found later = inr (later found)

among_found : (k : List ℕ) (ms : Members) → is_some (get_member k ms) ≡ true → Among k (keys_in ms)
among_found k no_members found = let both : false ≡ true = found in cc
among_found k (member l e ms) found = among_at (slice_cmp nat_cmp k l) k l e ms refl found (among_found k ms)

-- ---- as many keys as are named, and each of them

record Split (key : List ℕ) (names : List (List ℕ)) : Type 0 where
  front : List (List ℕ)
  back : List (List ℕ)
  whole : names ≡ front ++ key ∷ back

split : (key : List ℕ) (names : List (List ℕ)) → Among key names → Split key names
split key [] h = absurd h
split key (name ∷ names) (inl same) = record { front = []; back = names; whole = ap (λ k. k ∷ names) (sym same) }
split key (name ∷ names) (inr later) =
    let s = split key names later in record { front = name ∷ s.front; back = s.back; whole = ap (λ ns. name ∷ ns) s.whole }

among_others : (key other : List ℕ) (front back : List (List ℕ)) → bytes_eq key other ≡ false → Among other (front ++ key ∷ back) → Among other (front ++ back)
among_others key other [] back differ (inl same) = let both : true ≡ false = sym ((bytes_eq-Decides key other).1 (sym same)) ∙ differ in cc
among_others key other [] back differ (inr later) = later
among_others key other (name ∷ front) back differ (inl same) = inl same
among_others key other (name ∷ front) back differ (inr later) = inr (among_others key other front back differ later)

neither : (a b : Bool) → (not a && b) ≡ true → (a ≡ false) × (b ≡ true)
neither true b h = let both : false ≡ true = h in cc
neither false b h = (refl, h)

either_false : (a b : Bool) → (a || b) ≡ false → (a ≡ false) × (b ≡ false)
either_false true b h = let both : true ≡ false = h in cc
either_false false b h = (refl, h)

all_among_others : (key : List ℕ) (keys front back : List (List ℕ)) → list_any (bytes_eq key) keys ≡ false → AllAmong keys (front ++ key ∷ back) → AllAmong keys (front ++ back)
all_among_others key [] front back once h = tt
all_among_others key (other ∷ keys) front back once h =
    let apart = either_false (bytes_eq key other) (list_any (bytes_eq key) keys) once in
    (among_others key other front back apart.0 h.0, all_among_others key keys front back apart.1 h.1)

-- names that differ, number as many as the keys, and include each key, are the keys
same_names : (keys names : List (List ℕ)) → are_different keys ≡ true → AllAmong keys names → length names ≡ length keys → IsPermutation keys names
same_names [] [] differ h many = IsPermutation-refl []
same_names [] (name ∷ names) differ h many = absurd (omega arith)
same_names (key ∷ keys) names differ h many =
    let s = split key names h.0 in
    let once = neither (list_any (bytes_eq key) keys) (are_different keys) differ in
    let others : List (List ℕ) = s.front ++ s.back in
    let still : AllAmong keys others = all_among_others key keys s.front s.back once.0 (subst (AllAmong keys) s.whole h.1) in
    let fewer : length others ≡ length keys = omega (arith, many, ap length s.whole, length-append s.front (key ∷ s.back), length-append s.front s.back) in
    let rest : IsPermutation keys others = same_names keys others once.1 still fewer in
    let back : IsPermutation (key ∷ others) names = subst (IsPermutation (key ∷ others)) (sym s.whole) (IsPermutation-sym _ _ (IsPermutation-middle s.front key s.back)) in
    IsPermutation-trans (key ∷ keys) (key ∷ others) names (IsPermutation-cons key keys others rest) back

-- ---- an object

-- a value is found under each key
abbrev pub AllFound : List (List ℕ) → Data → Type 0
AllFound [] d = Unit {0}
AllFound (key ∷ keys) d = (is_some (get key d) ≡ true) × AllFound keys d

all_among : (keys : List (List ℕ)) (ms : Members) → AllFound keys (object ms) → AllAmong keys (keys_in ms)
all_among [] ms found = tt
all_among (key ∷ keys) ms found = (among_found key ms found.0, all_among keys ms found.1)

length-keys_in : (ms : Members) → length (keys_in ms) ≡ members_len ms
length-keys_in no_members = refl
length-keys_in (member k d ms) = ap suc (length-keys_in ms)

pub has_exactly : (keys : List (List ℕ)) (d : Data) → are_different keys ≡ true → has_keys (length keys) d ≡ true → AllFound keys d → HasExactly keys d
has_exactly keys null differ count found = let both : false ≡ true = count in cc
has_exactly keys (boolean b) differ count found = let both : false ≡ true = count in cc
has_exactly keys (number n) differ count found = let both : false ≡ true = count in cc
has_exactly keys (string s) differ count found = let both : false ≡ true = count in cc
has_exactly keys (array ds) differ count found = let both : false ≡ true = count in cc
has_exactly keys (object ms) differ count found =
    let many : members_len ms ≡ length keys = (Decides-eqb (members_len ms) (length keys)).0 count in
    record { members = ms; is_object = refl; exactly = same_names keys (keys_in ms) differ (all_among keys ms found) (length-keys_in ms ∙ many) }

pub has_keys-exactly : (keys : List (List ℕ)) (d : Data) → HasExactly keys d → has_keys (length keys) d ≡ true
has_keys-exactly keys d h =
    let many : members_len h.members ≡ length keys = sym (length-keys_in h.members) ∙ length_permutation keys (keys_in h.members) h.exactly in
    rw h.is_object ((Decides-eqb (members_len h.members) (length keys)).1 many)
