-- Forms: that a JSON value (RFC 8259) is of some form, and says some value.
use Rattle.std.specs.Prelude.{◌≡◌, ◌↔◌, ℕ, ◌≤◌, ℤ, ◌≤ℤ◌, Bool, List, [], ◌∷◌, IsPermutation, Option, Some, None}
use Rattle.std.specs.List.{AllZip}
use Rattle.serde_json.specs.Data.{Num, unsigned, Data, boolean, number, string, array, object, Members, no_members, member}
use Rattle.serde_json.specs.Find.{get, as_integer}
use Rattle.serde_json.specs.View.{items_of}
use Rattle.tenant_messages.specs.Json.{value_of}

-- ---- numbers and texts

-- the whole number n, from 0 to a greatest, by a numeral with no sign, point or exponent
abbrev pub IsNatural : ℕ → Data → ℕ → Type 0
IsNatural greatest d n = (d ≡ number (unsigned n)) × (n ≤ greatest)

-- the whole number z, from a least to a greatest, by a numeral with neither point nor exponent;
-- `-0` isn't one
pub record IsInteger (least greatest : ℤ) (d : Data) (z : ℤ) : Type 0 where
  pub numeral : Num
  pub is_number : d ≡ number numeral
  pub whole : as_integer numeral ≡ Some z
  pub from : least ≤ℤ z
  pub to : z ≤ℤ greatest

-- true or false
abbrev pub IsBoolean : Data → Bool → Type 0
IsBoolean d b = d ≡ boolean b

-- the text t
abbrev pub IsText : Data → List ℕ → Type 0
IsText d t = d ≡ string t

-- ---- arrays

-- an array with as many values as xs has elements, where each value says the element at its place
pub record IsListOf {A : Type 0} (Says : Data → A → Type 0) (d : Data) (xs : List A) : Type 0 where
  pub values : List Data
  pub is_array : d ≡ array (items_of values)
  pub each : AllZip Says values xs

-- ---- objects

abbrev pub keys_in : Members → List (List ℕ)
keys_in no_members = []
keys_in (member key d members) = key ∷ keys_in members

-- an object with exactly these keys and no other, each once, in any order
pub record HasExactly (keys : List (List ℕ)) (d : Data) : Type 0 where
  pub members : Members
  pub is_object : d ≡ object members
  pub exactly : IsPermutation keys (keys_in members)

-- there is a value under the key, and it says a
pub record IsUnder {A : Type 0} (key : List ℕ) (Says : Data → A → Type 0) (d : Data) (a : A) : Type 0 where
  pub value : Data
  pub there : get key d ≡ Some value
  pub says : Says value a

-- the value under the key says a; or there is nothing to say, and no such key (`null` is a value)
abbrev pub IsOptional : {A : Type 0} → List ℕ → (Data → A → Type 0) → Data → Option A → Type 0
IsOptional key Says d None = get key d ≡ None
IsOptional key Says d (Some a) = IsUnder key Says d a

-- the key, where there is something to say
abbrev pub if_any : {A : Type 0} → List ℕ → Option A → List (List ℕ)
if_any key None = []
if_any key (Some a) = key ∷ []

-- ---- bytes

-- JSON whose value says a
pub record IsJson {A : Type 0} (Says : Data → A → Type 0) (bytes : List ℕ) (a : A) : Type 0 where
  pub value : Data
  pub read : value_of bytes ≡ Some value
  pub says : Says value a

-- ---- reading values of a form

-- a value is found exactly where the JSON says it
abbrev pub FindsExactly : {A : Type 0} → (Data → Option A) → (Data → A → Type 0) → Type 0
FindsExactly {A} find Says = (d : Data) (a : A) → (find d ≡ Some a) ↔ Says d a

-- a value is read exactly where the bytes are JSON that says it
abbrev pub ReadsExactly : {A : Type 0} → (List ℕ → Option A) → (Data → A → Type 0) → Type 0
ReadsExactly {A} read Says = (bytes : List ℕ) (a : A) → (read bytes ≡ Some a) ↔ IsJson Says bytes a

-- nothing is read exactly where the bytes say no value
abbrev pub RefusesOthers : {A : Type 0} → (List ℕ → Option A) → (Data → A → Type 0) → Type 0
RefusesOthers {A} read Says = (bytes : List ℕ) → (read bytes ≡ None) ↔ ((a : A) → ¬ IsJson Says bytes a)
