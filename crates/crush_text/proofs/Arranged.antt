-- Items in order of place, by a table.
use Rattle.std.proofs.Common.{◌≡◌, ◌∙◌, ◌<◌, ◌≤◌, ◌+◌, ◌==◌, ◌&&◌, ℕ, zero, suc, Bool, true, false, cond, Option, Some, None, List, [], ◌∷◌, ◌++◌, refl, sym, ap, map, length, take, drop, get_or, drop-cons, add-one, arith, option_map, find, filter, is_none}
use Rattle.std.specs.List.{list_all}
use Rattle.std.specs.Option.{option_map_or}
use Rattle.std.proofs.lemmas.List.{length-map, map-append}
use Rattle.crush_grammar.specs.declared.declaration.DeclaredItem.{DeclaredItem}
use Rattle.crush_grammar.specs.declared.declaration.Place.{Place}
use Rattle.crush_text.specs.Places.{fill, names_place, in_place}
use Rattle.crush_text.specs.Private.Tables.{arrange}

-- the table has at each place the first item that names it
abbrev pub IsTable : {X : Type 0} → (DeclaredItem → X) → List DeclaredItem → List (Option X) → Type 0
IsTable f items table = (k : ℕ) → k < length items → get_or table k None ≡ option_map f (find (names_place k) items)

map_take : {X Y : Type 0} (f : X → Y) (xs : List X) → map f (take 1 xs) ≡ take 1 (map f xs)
map_take f [] = refl
map_take f (x ∷ xs) = refl

map_drop : {X Y : Type 0} (f : X → Y) (xs : List X) → map f (drop 1 xs) ≡ drop 1 (map f xs)
map_drop f [] = refl
map_drop f (x ∷ xs) = refl

drop_end : {X : Type 0} (xs : List X) (k : ℕ) → k ≡ length xs → drop k xs ≡ []
drop_end [] zero h = refl
drop_end [] (suc k) h = refl
drop_end (x ∷ xs) zero h = cc
drop_end (x ∷ xs) (suc k) h = drop_end xs k (omega (arith, h))

named_place : (items : List DeclaredItem) (k n : ℕ) (others : List DeclaredItem) (item : DeclaredItem) → find (names_place k) items ≡ Some item → fill items k (suc n) others ≡ item ∷ fill items (k + 1) n others
named_place items k n others item e = rw (e, fill) refl

free_place : (items : List DeclaredItem) (k n : ℕ) (others : List DeclaredItem) → find (names_place k) items ≡ None → fill items k (suc n) others ≡ take 1 others ++ fill items (k + 1) n (drop 1 others)
free_place items k n others e = rw (e, fill) refl

one_place : {X : Type 0} (f : DeclaredItem → X) (items : List DeclaredItem) (k n : ℕ) (others : List DeclaredItem) (rest : List (Option X)) (o : Option DeclaredItem) → find (names_place k) items ≡ o →
    ((more : List DeclaredItem) → map f (fill items (k + 1) n more) ≡ arrange rest (map f more)) →
    map f (fill items k (suc n) others) ≡ arrange (option_map f o ∷ rest) (map f others)
one_place f items k n others rest (Some item) e h = ap (map f) (named_place items k n others item e) ∙ ap (λ zs. f item ∷ zs) (h others)
one_place f items k n others rest None e h =
    ap (map f) (free_place items k n others e)
    ∙ (map-append f (take 1 others) (fill items (k + 1) n (drop 1 others)) ∙ rw (map_take f others, h (drop 1 others), map_drop f others) refl)

pub fill_is_arranged : {X : Type 0} (f : DeclaredItem → X) (items : List DeclaredItem) (table : List (Option X)) (k n : ℕ) (others : List DeclaredItem) → length table ≡ length items → k + n ≡ length items → IsTable f items table →
    map f (fill items k n others) ≡ arrange (drop k table) (map f others)
fill_is_arranged f items table k zero others size sum h = rw (drop_end table k (omega (arith, size, sum))) refl
fill_is_arranged f items table k (suc n) others size sum h =
    let short : k < length table = omega (arith, size, sum) in
    let small : k < length items = omega (arith, sum) in
    let e : drop k table ≡ option_map f (find (names_place k) items) ∷ drop (suc k) table = drop-cons table k None short ∙ ap (λ o. o ∷ drop (suc k) table) (h k small) in
    let more = λ (rest : List DeclaredItem). fill_is_arranged f items table (suc k) n rest size (omega (arith, sum)) h in
    rw e (one_place f items k n others (drop (suc k) table) (find (names_place k) items) refl (rw add-one more))

-- the table and the items that name no place, arranged, are the items in order of place
pub in_place_is_arranged : {X : Type 0} (f : DeclaredItem → X) (items : List DeclaredItem) (table : List (Option X)) (others : List X) → length table ≡ length items → IsTable f items table →
    others ≡ map f (filter (λ item. is_none item.place) items) → arrange table others ≡ map f (in_place items)
unfolding in_place
in_place_is_arranged f items table others size h rest =
    rw rest (sym (fill_is_arranged f items table 0 (length items) (filter (λ item. is_none item.place) items) size (omega arith) h))

-- ---- no item names a place

shorter : {X : Type 0} (x : X) (ys xs : List X) (b : Bool) → length ys ≤ length xs → length (cond b (x ∷ ys) ys) ≤ suc (length xs)
shorter x ys xs true h = omega (arith, h)
shorter x ys xs false h = omega (arith, h)

at_most : {X : Type 0} (p : X → Bool) (xs : List X) → length (filter p xs) ≤ length xs
at_most p [] = omega arith
at_most p (x ∷ xs) = shorter x (filter p xs) xs (p x) (at_most p xs)

same_by : {X : Type 0} (x : X) (ys xs : List X) (b : Bool) → length ys ≤ length xs → (length ys ≡ length xs → ys ≡ xs) → length (cond b (x ∷ ys) ys) ≡ suc (length xs) → cond b (x ∷ ys) ys ≡ x ∷ xs
same_by x ys xs true le same h = ap (λ zs. x ∷ zs) (same (omega (arith, h)))
same_by x ys xs false le same h = absurd (omega (arith, h, le))

-- what passes of a list is all of it, if it is as long
all_of_it : {X : Type 0} (p : X → Bool) (xs : List X) → length (filter p xs) ≡ length xs → filter p xs ≡ xs
all_of_it p [] h = refl
all_of_it p (x ∷ xs) h = same_by x (filter p xs) xs (p x) (at_most p xs) (all_of_it p xs) h

pass_by : {X : Type 0} (x : X) (ys xs : List X) (b r : Bool) → length ys ≤ length xs → (length ys ≡ length xs → r ≡ true) → length (cond b (x ∷ ys) ys) ≡ suc (length xs) → (b && r) ≡ true
pass_by x ys xs true r le all h = all (omega (arith, h))
pass_by x ys xs false r le all h = absurd (omega (arith, h, le))

all_pass : {X : Type 0} (p : X → Bool) (xs : List X) → length (filter p xs) ≡ length xs → list_all p xs ≡ true
all_pass p [] h = refl
all_pass p (x ∷ xs) h = pass_by x (filter p xs) xs (p x) (list_all p xs) (at_most p xs) (all_pass p xs) h

none_by : (place : Option Place) (k : ℕ) (item : DeclaredItem) (r : Bool) (o : Option DeclaredItem) → (is_none place && r) ≡ true → (r ≡ true → o ≡ None) →
    cond (option_map_or (λ p. p.number == k) place false) (Some item) o ≡ None
none_by None k item r o h more = more h
none_by (Some p) k item r o h more = cc

none_found : (items : List DeclaredItem) (k : ℕ) → list_all (λ item. is_none item.place) items ≡ true → find (names_place k) items ≡ None
none_found [] k h = refl
none_found (item ∷ items) k h = none_by item.place k item (list_all (λ it. is_none it.place) items) (find (names_place k) items) h (none_found items k)

filled_in_turn : (items : List DeclaredItem) (k : ℕ) (others : List DeclaredItem) → ((j : ℕ) → find (names_place j) items ≡ None) → fill items k (length others) others ≡ others
filled_in_turn items k [] none = refl
filled_in_turn items k (x ∷ others) none = free_place items k (length others) (x ∷ others) (none k) ∙ ap (λ xs. x ∷ xs) (filled_in_turn items (k + 1) others none)

in_turn : (items : List DeclaredItem) → length (filter (λ item. is_none item.place) items) ≡ length items → in_place items ≡ filter (λ item. is_none item.place) items
unfolding in_place
in_turn items h =
    let same : filter (λ item. is_none item.place) items ≡ items = all_of_it _ items h in
    rw same (filled_in_turn items 0 items (λ j. none_found items j (all_pass _ items h)))

-- where as many items name no place as there are, they are the items in order of place
pub others_are_in_place : {X : Type 0} (f : DeclaredItem → X) (items : List DeclaredItem) (others : List X) → others ≡ map f (filter (λ item. is_none item.place) items) → length others ≡ length items →
    others ≡ map f (in_place items)
others_are_in_place f items others e h =
    let long : length (filter (λ item. is_none item.place) items) ≡ length items = simp length-map at (sym (ap length e) ∙ h) in
    e ∙ ap (map f) (sym (in_turn items long))
