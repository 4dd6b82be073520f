-- Numbers stay with their contents.
use Rattle.std.proofs.Common.{◌≡◌, ◌∙◌, ℕ, ◌+◌, ◌-◌, ◌<◌, List, [], ◌∷◌, ◌++◌, length, slice_get, Some, None, position, Contains, arith, length-append, ap, refl, sym, subst, ◌≤◌, Bool, not, nat_le}
use Rattle.std.specs.List.{filter}
use Rattle.std.proofs.lemmas.List.Elements.{filter-append}
use Rattle.std.proofs.lemmas.List.Filters.{length-filter_both}
use Rattle.std.proofs.lemmas.Option.{get_or_from_slice_get, slice_get-get_or, slice_get_within}
use Rattle.std.proofs.lemmas.List.Quantifiers.{position-Some}
use Rattle.std.proofs.Math.ListN.{get_or-append}
use Rattle.lru.proofs.Pairs.{slice_get-cut}
use Rattle.crush_pool.specs.declared.content.TheConstants.{LONG_TEXT}
use Rattle.crush_pool.specs.declared.placing.Placement.{Placement}
use Rattle.crush_pool.specs.Contents.{Content, content_eq}
use Rattle.crush_pool.specs.Laws.{content_decides}
use Rattle.crush_cache.specs.Caches.{IsNumberOf, Numbered, WasNumberOf}
use Rattle.crush_cache.specs.Private.Entries.{AreNumbered, AreRight, IsPlacementIn, IsPlacementOf, long_in}
use Rattle.crush_cache.specs.declared.entries.Key.{Key}

-- an element's place is unchanged where the list gets longer
slice_get-longer : {X : Type 0} (xs ys : List X) (i : ℕ) (x : X) → slice_get xs i ≡ Some x → slice_get (xs ++ ys) i ≡ Some x
slice_get-longer xs ys i x h =
    let within : i < length xs = slice_get_within xs i x h in
    let len : length (xs ++ ys) ≡ length xs + length ys = length-append xs ys in
    slice_get-get_or (xs ++ ys) i x (omega (arith, within, len)) ∙ ap Some (get_or-append xs ys x i within ∙ get_or_from_slice_get xs i x x h)

pub never : {X Y : Type 0} (x : X) → None ≡ Some x → Y
never x h = cc

pub some_one : {X : Type 0} (a b : X) → Some a ≡ Some b → a ≡ b
some_one a b h = cc

-- ---- a content that is found

-- where the search for a content ends, it is
found_content : (cs : List Content) (p : Content) (i : ℕ) → position (λ c. content_eq c p) cs ≡ Some i → slice_get cs i ≡ Some p
found_content cs p i h =
    let at = position-Some (λ c. content_eq c p) cs i p h in
    slice_get-get_or cs i p at.0 ∙ ap Some ((content_decides _ p).0 at.1)

pub number_of-found : (k : Numbered) (first place : ℕ) (p : Content) → first ≡ k.first → position (λ c. content_eq c p) k.contents ≡ Some place → IsNumberOf k (first + place) p
number_of-found k first place p e h =
    let at : place ≡ first + place - k.first = omega (arith, e) in
    (omega (arith, e), subst (λ i. slice_get k.contents i ≡ Some p) at (found_content k.contents p place h))

pub was_number : (k : Numbered) (n : ℕ) (c : Content) → IsNumberOf k n c → WasNumberOf k n c
was_number k n c h =
    let within : n - k.first < length k.contents = slice_get_within k.contents (n - k.first) c h.1 in
    (omega (arith, within, h.0), λ _. h.1)

-- ---- one more content

abbrev numbered : ℕ → List Content → Numbered
numbered first cs = record { first = first; contents = cs }

abbrev more : ℕ → List Content → Content → Numbered
more first cs p = record { first = first; contents = cs ++ p ∷ [] }

number_of-more : (first : ℕ) (cs : List Content) (p : Content) (n : ℕ) (c : Content) → IsNumberOf (numbered first cs) n c → IsNumberOf (more first cs p) n c
number_of-more first cs p n c h = (h.0, slice_get-longer cs (p ∷ []) (n - first) c h.1)

pub was_number-more : (first : ℕ) (cs : List Content) (p : Content) (n : ℕ) (c : Content) → WasNumberOf (numbered first cs) n c → WasNumberOf (more first cs p) n c
was_number-more first cs p n c h =
    let len : length (cs ++ p ∷ []) ≡ length cs + 1 = length-append cs (p ∷ []) in
    (omega (arith, h.0, len), λ there. slice_get-longer cs (p ∷ []) (n - first) c (h.1 there))

last : (first : ℕ) (cs : List Content) (p : Content) → IsNumberOf (more first cs p) (first + length cs) p
last first cs p =
    let at : length cs ≡ first + length cs - first = omega arith in
    (omega arith, subst (λ i. slice_get (cs ++ p ∷ []) i ≡ Some p) at (slice_get-cut cs p []))

-- it has the next number
pub number_of-last : (first : ℕ) (cs : List Content) (p : Content) (len : ℕ) → len ≡ length cs → IsNumberOf (more first cs p) (first + len) p
number_of-last first cs p len l = subst (λ n. IsNumberOf (more first cs p) (first + n) p) (sym l) (last first cs p)

-- a content more is at most one with a long text more
long_in-more : (cs : List Content) (p : Content) → long_in cs < 64 → long_in (cs ++ p ∷ []) ≤ 64
long_in-more cs p few =
    let is_long : Content → Bool = λ c. nat_le LONG_TEXT (length c.text) in
    let split : long_in (cs ++ p ∷ []) ≡ long_in cs + long_in (p ∷ []) = ap length (filter-append is_long cs (p ∷ [])) ∙ length-append (filter is_long cs) (filter is_long (p ∷ [])) in
    let other : length (filter is_long (p ∷ [])) + length (filter (λ c. not (is_long c)) (p ∷ [])) ≡ 1 = length-filter_both is_long (λ c. not (is_long c)) (λ c. refl) (p ∷ []) in
    omega (arith, split, other, few)

pub are_numbered-more : (first : ℕ) (cs : List Content) (p : Content) (len : ℕ) → len ≡ length cs → AreNumbered (numbered first cs) → length cs < 256 → long_in cs < 64 → (first + len ≡ 18446744073709551615 → ⊥) → AreNumbered (more first cs p)
are_numbered-more first cs p len l are few long left =
    let longer : length (cs ++ p ∷ []) ≡ length cs + 1 = length-append cs (p ∷ []) in
    let fit : first + length cs < 18446744073709551616 = are.fit in
    let small : first + length (cs ++ p ∷ []) < 18446744073709551616 = omega (arith, longer, fit, left, l) in
    record { few = omega (arith, longer, few); long = long_in-more cs p long; fit = small }

pub placement_in-more : (first : ℕ) (cs : List Content) (q : Content) (n group : ℕ) (p : Placement) → IsPlacementIn (numbered first cs) n group p → IsPlacementIn (more first cs q) n group p
placement_in-more first cs q n group p h = (h.0, number_of-more first cs q n h.0 h.1, h.2)

-- ---- entries

-- what is kept under the number of a content is that content's placement
pub placement_is : {V : Type 0} (of : V → Placement) (k : Numbered) (entries : List (Key × V)) (key : Key) (v : V) (c : Content) → AreRight of k entries → Contains entries (key, v) → IsNumberOf k key.number c → IsPlacementOf c key.group (of v)
placement_is of k entries key v c right at n =
    let it = right (key, v) at in
    subst (λ d. IsPlacementOf d key.group (of v)) (some_one it.0 c (sym it.1.1 ∙ n.1)) it.2

pub right_new : (k : Numbered) (key other : Key) (p q : Placement) → other ≡ key → q ≡ p → IsPlacementIn k key.number key.group p → IsPlacementIn k other.number other.group q
right_new k key other p q same shared placed =
    subst (λ j. IsPlacementIn k j.number j.group q) (sym same) (subst (λ r. IsPlacementIn k key.number key.group r) (sym shared) placed)
