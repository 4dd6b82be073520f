-- Reading a JSON value that has to be of some form.
use Rattle.std.specs.Prelude.{ℕ, ◌&&◌, ◌==◌, ℤ, int_le, List, [], ◌∷◌, Bool, false, nat_le, if◌then◌else◌, Option, Some, None, is_some, option_map, option_and_then}
use Rattle.std.specs.Option.{option_map_or}
use Rattle.std.specs.Str.{is_utf8}
use Rattle.serde_json.specs.Data.{Data, Items, no_items, item}
use Rattle.serde_json.specs.Read.{read}
use Rattle.serde_json.specs.Find.{get, as_number, as_u64, as_i64, as_array, as_object}
use Rattle.serde_json.specs.Events.{members_len}

-- the text that some bytes are in UTF-8
abbrev pub text_of : List ℕ → Option (List ℕ)
text_of bytes = if is_utf8 bytes then Some bytes else None

-- the JSON value of some bytes (RFC 8259), as `serde_json` reads it: of a key that comes twice, the
-- last value counts
abbrev pub value_of : List ℕ → Option Data
value_of bytes = option_and_then read (text_of bytes)

-- ---- numbers

-- the whole number from 0 to a greatest
abbrev pub natural_of : ℕ → Data → Option ℕ
natural_of greatest d =
    option_and_then (λ n. if nat_le n greatest then Some n else None) (option_and_then as_u64 (as_number d))

-- the whole number from a least to a greatest
abbrev pub integer_of : ℤ → ℤ → Data → Option ℤ
integer_of least greatest d =
    option_and_then (λ z. if int_le least z && int_le z greatest then Some z else None) (option_and_then as_i64 (as_number d))

-- ---- several values, all of which have to be there

abbrev pub both : {A B C : Type 0} → (A → B → C) → Option A → Option B → Option C
both f None b = None
both f (Some a) None = None
both f (Some a) (Some b) = Some (f a b)

abbrev pub all_three : {A B C D : Type 0} → (A → B → C → D) → Option A → Option B → Option C → Option D
all_three f None b c = None
all_three f (Some a) b c = both (f a) b c

-- ---- arrays

abbrev pub each_of : {A : Type 0} → (Data → Option A) → Items → Option (List A)
each_of f no_items = Some []
each_of f (item d ds) = both (λ x xs. x ∷ xs) (f d) (each_of f ds)

-- what each value of an array gives
abbrev pub list_of : {A : Type 0} → (Data → Option A) → Data → Option (List A)
list_of f d = option_and_then (each_of f) (as_array d)

-- ---- objects

-- whether a value is an object of `count` different keys
abbrev pub has_keys : ℕ → Data → Bool
has_keys count d = option_map_or (λ members. members_len members == count) (as_object d) false

-- what the value under a key gives
abbrev pub under : {A : Type 0} → List ℕ → (Data → Option A) → Data → Option A
under key f d = option_and_then f (get key d)

-- ---- keys that may be missing

abbrev pub on_optional : {A : Type 0} → (Data → Option A) → Option Data → Option (Option A)
on_optional f None = Some None
on_optional f (Some d) = option_map (λ a. Some a) (f d)

-- what the value under a key gives, where the key is there
abbrev pub optional : {A : Type 0} → List ℕ → (Data → Option A) → Data → Option (Option A)
optional key f d = on_optional f (get key d)

-- 1 if the value is an object that has the key, else 0
abbrev pub present : List ℕ → Data → ℕ
present key d = if is_some (get key d) then 1 else 0
