-- What finds a value exactly where a JSON value is of a form and says it.
use Rattle.std.proofs.Common.{◌≡◌, ◌↔◌, ℕ, ◌^◌, ◌&&◌, ◌≤◌, ℤ, pos, ◌≤ℤ◌, List, [], ◌∷◌, length, Bool, true, false, nat_lt, nat_le, int_le, if◌then◌else◌, Option, Some, None, is_some, option_and_then, refl, sym, ap, subst, ◌∙◌, arith}
use Rattle.std.specs.Bool.{Decides}
use Rattle.std.proofs.lemmas.Bool.Decides.{nat_tests, Decides-and}
use Rattle.std.proofs.lemmas.Int.{ints}
use Rattle.std.specs.List.{AllZip}
use Rattle.serde_json.specs.Data.{Num, unsigned, negative, float, Data, null, boolean, number, string, array, object, Items, no_items, item}
use Rattle.serde_json.specs.Find.{get, as_bool, as_i64, as_integer, as_str}
use Rattle.serde_json.specs.View.{items_of}
use Rattle.tenant_messages.proofs.Objects.{AllFound, are_different, has_exactly, has_keys-exactly}
use Rattle.tenant_messages.specs.declared.limits.TheConstants.{REQUEST_NUMBER_LIMIT}
use Rattle.tenant_messages.specs.Forms.{IsNatural, IsInteger, IsBoolean, IsText, IsListOf, HasExactly, IsUnder, IsJson}
use Rattle.tenant_messages.specs.Numbers.{IsRequestNumber, has_length, request_number_of}
use Rattle.tenant_messages.specs.Json.{value_of, natural_of, integer_of, both, all_three, each_of, list_of, has_keys, under}

pub record Finds {A : Type 0} (f : Data → Option A) (Says : Data → A → Type 0) : Type 0 where
  pub says : (d : Data) (a : A) → f d ≡ Some a → Says d a
  pub found : (d : Data) (a : A) → Says d a → f d ≡ Some a

-- ---- numbers and texts

kept_natural : (b : Bool) (m n greatest : ℕ) → nat_le m greatest ≡ b → (if b then Some m else None) ≡ Some n → (m ≡ n) × (m ≤ greatest)
kept_natural true m n greatest test h = let same : m ≡ n = cc in (same, grind (arith, nat_tests))
kept_natural false m n greatest test h = cc

natural-says : (greatest : ℕ) (d : Data) (n : ℕ) → natural_of greatest d ≡ Some n → IsNatural greatest d n
natural-says greatest (number (unsigned m)) n h =
    let is = kept_natural (nat_le m greatest) m n greatest refl h in (ap (λ k. number (unsigned k)) is.0, omega (arith, is.0, is.1))
natural-says greatest (number (negative z)) n h = cc
natural-says greatest (number (float x)) n h = cc
natural-says greatest null n h = cc
natural-says greatest (boolean b) n h = cc
natural-says greatest (string s) n h = cc
natural-says greatest (array ds) n h = cc
natural-says greatest (object ms) n h = cc

pub finds_natural : (greatest : ℕ) → Finds (natural_of greatest) (IsNatural greatest)
finds_natural greatest = record {
  says = natural-says greatest;
  found = λ d n is. let few : nat_le n greatest ≡ true = grind (arith, nat_tests, is.1) in rw (is.0, few) refl;
}

within : (least z greatest : ℤ) → (int_le least z && int_le z greatest) ≡ true → (least ≤ℤ z) × (z ≤ℤ greatest)
within least z greatest h = grind (arith, ints)

is_within : (least z greatest : ℤ) → least ≤ℤ z → z ≤ℤ greatest → (int_le least z && int_le z greatest) ≡ true
is_within least z greatest from to = grind (arith, ints)

kept_integer : (b : Bool) (z y least greatest : ℤ) → (int_le least z && int_le z greatest) ≡ b → (if b then Some z else None) ≡ Some y
    → (z ≡ y) × (least ≤ℤ y) × (y ≤ℤ greatest)
kept_integer true z y least greatest test h =
    let same : z ≡ y = cc in let is = within least z greatest test in (same, rw (← same) is.0, rw (← same) is.1)
kept_integer false z y least greatest test h = cc

unsigned-says : (least greatest : ℤ) (n : ℕ) (z : ℤ) (b : Bool)
    → option_and_then (λ z. if int_le least z && int_le z greatest then Some z else None) (if b then Some (pos n) else None) ≡ Some z
    → IsInteger least greatest (number (unsigned n)) z
unsigned-says least greatest n z true h =
    let is = kept_integer (int_le least (pos n) && int_le (pos n) greatest) (pos n) z least greatest refl h in
    record { numeral = unsigned n; is_number = refl; whole = ap Some is.0; from = is.1; to = is.2 }
unsigned-says least greatest n z false h = cc

integer-says : (least greatest : ℤ) (d : Data) (z : ℤ) → integer_of least greatest d ≡ Some z → IsInteger least greatest d z
integer-says least greatest (number (unsigned n)) z h = unsigned-says least greatest n z (nat_lt n (2 ^ 63)) h
integer-says least greatest (number (negative y)) z h =
    let is = kept_integer (int_le least y && int_le y greatest) y z least greatest refl h in
    record { numeral = negative y; is_number = refl; whole = ap Some is.0; from = is.1; to = is.2 }
integer-says least greatest (number (float x)) z h = cc
integer-says least greatest null z h = cc
integer-says least greatest (boolean b) z h = cc
integer-says least greatest (string s) z h = cc
integer-says least greatest (array ds) z h = cc
integer-says least greatest (object ms) z h = cc

-- a whole number below 2^63 is what `as_i64` gives
as_i64-whole : (n : Num) (z greatest : ℤ) → int_le greatest (pos 9223372036854775807) ≡ true → z ≤ℤ greatest → as_integer n ≡ Some z → as_i64 n ≡ Some z
as_i64-whole (unsigned n) z greatest word to whole =
    let same : pos n ≡ z = cc in let below : nat_lt n (2 ^ 63) ≡ true = grind (arith, ints, nat_tests) in rw below whole
as_i64-whole (negative y) z greatest word to whole = whole
as_i64-whole (float x) z greatest word to whole = cc

pub finds_integer : (least greatest : ℤ) → int_le greatest (pos 9223372036854775807) ≡ true → Finds (integer_of least greatest) (IsInteger least greatest)
finds_integer least greatest word = record {
  says = integer-says least greatest;
  found = λ d z is. rw (is.is_number, as_i64-whole is.numeral z greatest word is.to is.whole, is_within least z greatest is.from is.to) refl;
}

text-says : (d : Data) (t : List ℕ) → as_str d ≡ Some t → IsText d t
text-says (string s) t h = let same : s ≡ t = cc in ap string same
text-says null t h = cc
text-says (boolean b) t h = cc
text-says (number n) t h = cc
text-says (array ds) t h = cc
text-says (object ms) t h = cc

pub finds_text : Finds as_str IsText
finds_text = record { says = text-says; found = λ d t is. rw is refl }

boolean-says : (d : Data) (b : Bool) → as_bool d ≡ Some b → IsBoolean d b
boolean-says (boolean c) b h = let same : c ≡ b = cc in ap boolean same
boolean-says null b h = cc
boolean-says (number n) b h = cc
boolean-says (string s) b h = cc
boolean-says (array ds) b h = cc
boolean-says (object ms) b h = cc

pub finds_boolean : Finds as_bool IsBoolean
finds_boolean = record { says = boolean-says; found = λ d b is. rw is refl }

-- ---- under a key

under-says : {A : Type 0} (f : Data → Option A) (Says : Data → A → Type 0) (key : List ℕ) (d : Data) (a : A) → Finds f Says
    → (o : Option Data) → get key d ≡ o → option_and_then f o ≡ Some a → IsUnder key Says d a
under-says f Says key d a finds None is h = cc
under-says f Says key d a finds (Some v) is h = record { value = v; there = is; says = finds.says v a h }

pub finds_under : {A : Type 0} {f : Data → Option A} {Says : Data → A → Type 0} (key : List ℕ) → Finds f Says → Finds (under key f) (IsUnder key Says)
finds_under {A} {f} {Says} key finds = record {
  says = λ d a h. under-says f Says key d a finds (get key d) refl h;
  found = λ d a is. rw is.there (finds.found is.value a is.says);
}

pub is_there : {A : Type 0} {Says : Data → A → Type 0} (key : List ℕ) (d : Data) (a : A) → IsUnder key Says d a → is_some (get key d) ≡ true
is_there key d a is = ap is_some is.there

-- ---- several values

record AreBoth {A B C : Type 0} (f : A → B → C) (a : Option A) (b : Option B) (c : C) : Type 0 where
  first : A
  second : B
  is_first : a ≡ Some first
  is_second : b ≡ Some second
  made : f first second ≡ c

are_both : {A B C : Type 0} (f : A → B → C) (a : Option A) (b : Option B) (c : C) → both f a b ≡ Some c → AreBoth f a b c
are_both f None b c h = cc
are_both f (Some x) None c h = cc
are_both f (Some x) (Some y) c h = record { first = x; second = y; is_first = refl; is_second = refl; made = cc }

record AreThree {A B C D : Type 0} (f : A → B → C → D) (a : Option A) (b : Option B) (c : Option C) (d : D) : Type 0 where
  first : A
  second : B
  third : C
  is_first : a ≡ Some first
  is_second : b ≡ Some second
  is_third : c ≡ Some third
  made : f first second third ≡ d

are_three : {A B C D : Type 0} (f : A → B → C → D) (a : Option A) (b : Option B) (c : Option C) (d : D) → all_three f a b c ≡ Some d → AreThree f a b c d
are_three f None b c d h = cc
are_three f (Some x) b c d h =
    let rest = are_both (f x) b c d h in
    record {
      first = x;
      second = rest.first;
      third = rest.second;
      is_first = refl;
      is_second = rest.is_first;
      is_third = rest.is_second;
      made = rest.made;
    }

-- what is made of two values says what each of them says
pub finds_both : {A B C : Type 0} {F : Data → Option A} {G : Data → Option B} {P : Data → A → Type 0} {Q : Data → B → Type 0} (f : A → B → C) (first : C → A) (second : C → B)
    → ((a : A) (b : B) → first (f a b) ≡ a) → ((a : A) (b : B) → second (f a b) ≡ b) → ((c : C) → f (first c) (second c) ≡ c)
    → Finds F P → Finds G Q → Finds (λ d. both f (F d) (G d)) (λ d c. P d (first c) × Q d (second c))
finds_both {A} {B} {C} {F} {G} {P} {Q} f first second is_first is_second whole finds_first finds_second = record {
  says = λ d c h.
      let are = are_both f (F d) (G d) c h in
      rw (← are.made, is_first are.first are.second, is_second are.first are.second)
      (finds_first.says d are.first are.is_first, finds_second.says d are.second are.is_second);
  found = λ d c h. rw (finds_first.found d (first c) h.0, finds_second.found d (second c) h.1) (ap Some (whole c));
}

-- and so does what is made of three
pub finds_three : {A B C D : Type 0} {F : Data → Option A} {G : Data → Option B} {H : Data → Option C} {P : Data → A → Type 0} {Q : Data → B → Type 0} {R : Data → C → Type 0}
    (f : A → B → C → D) (first : D → A) (second : D → B) (third : D → C)
    → ((a : A) (b : B) (c : C) → first (f a b c) ≡ a) → ((a : A) (b : B) (c : C) → second (f a b c) ≡ b) → ((a : A) (b : B) (c : C) → third (f a b c) ≡ c)
    → ((d : D) → f (first d) (second d) (third d) ≡ d)
    → Finds F P → Finds G Q → Finds H R → Finds (λ v. all_three f (F v) (G v) (H v)) (λ v d. P v (first d) × Q v (second d) × R v (third d))
finds_three {A} {B} {C} {D} {F} {G} {H} {P} {Q} {R} f first second third is_first is_second is_third whole finds_first finds_second finds_third = record {
  says = λ v d h.
      let are = are_three f (F v) (G v) (H v) d h in
      rw (← are.made, is_first are.first are.second are.third, is_second are.first are.second are.third, is_third are.first are.second are.third)
      (finds_first.says v are.first are.is_first, finds_second.says v are.second are.is_second, finds_third.says v are.third are.is_third);
  found = λ v d h. rw (finds_first.found v (first d) h.0, finds_second.found v (second d) h.1, finds_third.found v (third d) h.2) (ap Some (whole d));
}

-- ---- arrays

record AreEach {A : Type 0} (Says : Data → A → Type 0) (ds : Items) (xs : List A) : Type 0 where
  values : List Data
  are : ds ≡ items_of values
  each : AllZip Says values xs

each-says : {A : Type 0} {f : Data → Option A} {Says : Data → A → Type 0} (finds : Finds f Says) (ds : Items) (xs : List A) → each_of f ds ≡ Some xs → AreEach Says ds xs
each-says finds no_items [] h = record { values = []; are = refl; each = tt }
each-says finds no_items (x ∷ xs) h = cc
each-says {A} {f} {Says} finds (item d ds) xs h =
    let are = are_both (λ y ys. y ∷ ys) (f d) (each_of f ds) xs h in
    let rest = each-says finds ds are.second are.is_second in
    let each : AllZip Says (d ∷ rest.values) (are.first ∷ are.second) = (finds.says d are.first are.is_first, rest.each) in
    record { values = d ∷ rest.values; are = ap (item d) rest.are; each = subst (AllZip Says (d ∷ rest.values)) are.made each }

each-found : {A : Type 0} {f : Data → Option A} {Says : Data → A → Type 0} (finds : Finds f Says) (ds : List Data) (xs : List A) → AllZip Says ds xs → each_of f (items_of ds) ≡ Some xs
each-found finds [] [] h = refl
each-found finds [] (x ∷ xs) h = absurd h
each-found finds (d ∷ ds) [] h = absurd h
each-found finds (d ∷ ds) (x ∷ xs) h = rw (finds.found d x h.0, each-found finds ds xs h.1) refl

list-says : {A : Type 0} {f : Data → Option A} {Says : Data → A → Type 0} (finds : Finds f Says) (d : Data) (xs : List A) → list_of f d ≡ Some xs → IsListOf Says d xs
list-says finds (array ds) xs h = let are = each-says finds ds xs h in record { values = are.values; is_array = ap array are.are; each = are.each }
list-says finds null xs h = cc
list-says finds (boolean b) xs h = cc
list-says finds (number n) xs h = cc
list-says finds (string s) xs h = cc
list-says finds (object ms) xs h = cc

pub finds_list : {A : Type 0} {f : Data → Option A} {Says : Data → A → Type 0} → Finds f Says → Finds (list_of f) (IsListOf Says)
finds_list finds = record { says = list-says finds; found = λ d xs is. rw is.is_array (each-found finds is.values xs is.each) }

-- ---- objects

-- where as many keys are there as are named for what is found, and each of them, the keys are
-- exactly those named
pub finds_object_with : {A : Type 0} {f : Data → Option A} {Says : Data → A → Type 0} (count : Data → ℕ) (keys : A → List (List ℕ))
    → ((a : A) → are_different (keys a) ≡ true) → ((d : Data) (a : A) → Says d a → AllFound (keys a) d) → ((d : Data) (a : A) → Says d a → count d ≡ length (keys a))
    → Finds f Says → Finds (λ d. if has_keys (count d) d then f d else None) (λ d a. HasExactly (keys a) d × Says d a)
finds_object_with {A} {f} {Says} count keys differ there many finds = record {
  says = λ d a h. object-says (has_keys (count d) d) d a refl h;
  found = λ d a is. rw (many d a is.1, has_keys-exactly (keys a) d is.0) (finds.found d a is.1);
}
  where
    object-says : (b : Bool) (d : Data) (a : A) → has_keys (count d) d ≡ b → (if b then f d else None) ≡ Some a → HasExactly (keys a) d × Says d a
    object-says true d a counted h =
        let said = finds.says d a h in
        let as_many : has_keys (length (keys a)) d ≡ true = subst (λ n. has_keys n d ≡ true) (many d a said) counted in
        (has_exactly (keys a) d (differ a) as_many (there d a said), said)
    object-says false d a counted h = cc

-- the same where each key has to be there
pub finds_object : {A : Type 0} {f : Data → Option A} {Says : Data → A → Type 0} (keys : List (List ℕ)) → are_different keys ≡ true
    → ((d : Data) (a : A) → Says d a → AllFound keys d) → Finds f Says
    → Finds (λ d. if has_keys (length keys) d then f d else None) (λ d a. HasExactly keys d × Says d a)
finds_object keys differ there finds = finds_object_with (λ d. length keys) (λ a. keys) (λ a. differ) there (λ d a is. refl) finds

-- ---- a further test

tested-says : {A : Type 0} (test : A → Bool) (P : A → Type 0) → ((a : A) → test a ≡ true → P a) → (o : Option A) (a : A)
    → option_and_then (λ x. if test x then Some x else None) o ≡ Some a → (o ≡ Some a) × P a
tested-says test P holds None a h = cc
tested-says {A} test P holds (Some x) a h = tested-at (test x) refl h
  where
    tested-at : (b : Bool) → test x ≡ b → (if b then Some x else None) ≡ Some a → (Some x ≡ Some a) × P a
    tested-at true passes h = let same : x ≡ a = cc in (ap Some same, rw (← same) (holds x passes))
    tested-at false passes h = cc

pub finds_tested : {A : Type 0} {f : Data → Option A} {Says : Data → A → Type 0} (test : A → Bool) (P : A → Type 0)
    → ((a : A) → test a ≡ true → P a) → ((a : A) → P a → test a ≡ true) → Finds f Says
    → Finds (λ d. option_and_then (λ a. if test a then Some a else None) (f d)) (λ d a. Says d a × P a)
finds_tested {A} {f} {Says} test P holds passes finds = record {
  says = λ d a h. let is = tested-says test P holds (f d) a h in (finds.says d a is.0, is.1);
  found = λ d a is. rw (finds.found d a is.0, passes a is.1) refl;
}

-- ---- the same form in other words

pub finds_as : {A : Type 0} {f : Data → Option A} {P Q : Data → A → Type 0} → ((d : Data) (a : A) → P d a → Q d a) → ((d : Data) (a : A) → Q d a → P d a) → Finds f P → Finds f Q
finds_as to from finds = record { says = λ d a h. to d a (finds.says d a h); found = λ d a is. finds.found d a (from d a is) }

-- ---- request numbers

pub Decides-leb : (a b : ℕ) → Decides (nat_le a b) (a ≤ b)
Decides-leb a b = (λ h. grind (arith, nat_tests), λ h. grind (arith, nat_tests))

Decides-length : (text : List ℕ) → Decides (has_length text) ((1 ≤ length text) × (length text ≤ REQUEST_NUMBER_LIMIT))
Decides-length text = Decides-and (nat_le 1 (length text)) (nat_le (length text) REQUEST_NUMBER_LIMIT) (Decides-leb 1 (length text)) (Decides-leb (length text) REQUEST_NUMBER_LIMIT)

pub finds_number : Finds request_number_of IsRequestNumber
finds_number = finds_as (λ d n is. record { text = is.0; some = is.1.0; few = is.1.1 }) (λ d n is. (is.text, (is.some, is.few)))
    (finds_tested has_length (λ t. (1 ≤ length t) × (length t ≤ REQUEST_NUMBER_LIMIT)) (λ n. (Decides-length n).0) (λ n. (Decides-length n).1) finds_text)

-- ---- bytes

json-says : {A : Type 0} {f : Data → Option A} {Says : Data → A → Type 0} → Finds f Says → (bytes : List ℕ) (a : A) (o : Option Data) → value_of bytes ≡ o
    → option_and_then f o ≡ Some a → IsJson Says bytes a
json-says finds bytes a None is h = cc
json-says finds bytes a (Some d) is h = record { value = d; read = is; says = finds.says d a h }

-- what the value of some bytes says is found exactly where they are JSON whose value says it
pub json_finds : {A : Type 0} {f : Data → Option A} {Says : Data → A → Type 0} → Finds f Says → (bytes : List ℕ) (a : A)
    → (option_and_then f (value_of bytes) ≡ Some a) ↔ IsJson Says bytes a
json_finds finds bytes a = (λ h. json-says finds bytes a (value_of bytes) refl h, λ is. rw is.read (finds.found is.value a is.says))

found_none : {A : Type 0} (o : Option A) → ((a : A) → o ≡ Some a → ⊥) → o ≡ None
found_none None h = refl
found_none (Some a) h = absurd (h a refl)

-- and nothing is found exactly where there is no such value
pub json_refuses : {A : Type 0} {f : Data → Option A} {Says : Data → A → Type 0} → Finds f Says → (bytes : List ℕ)
    → (option_and_then f (value_of bytes) ≡ None) ↔ ((a : A) → ¬ IsJson Says bytes a)
json_refuses {A} {f} {Says} finds bytes = (
  λ none a is. let some : Some a ≡ None = sym ((json_finds finds bytes a).1 is) ∙ none in cc,
  λ no. found_none (option_and_then f (value_of bytes)) (λ a h. no a ((json_finds finds bytes a).0 h)),
)
