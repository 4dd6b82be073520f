-- Changes of devices as CSV: the record `id,reweight,up`, and then a record of each change.
--
-- Source: RFC 4180, as `csv` reads it with its defaults: a byte order mark is taken off, empty
-- lines are passed over, a field may be in quotes, CR, LF and CR LF end a record, and the last end
-- may be missing.
use Rattle.std.specs.Prelude.{◌≡◌, ◌≢◌, ℕ, ◌≤◌, ◌&&◌, List, [], ◌∷◌, length, Bool, true, false, nat_le, if◌then◌else◌, Option, Some, None, option_map, option_and_then, codes}
use Rattle.std.specs.List.{AllPairs, AllZip}
use Rattle.std.specs.Option.{option_map_or}
use Rattle.std.specs.Str.{bytes_eq}
use Rattle.csv.specs.Reading.{default_config, records, strip_bom}
use Rattle.crush_grammar.specs.Numbers.{number_of}
use Rattle.crush_pool.specs.Changes.{are_valid_changes}
use Rattle.crush_pool.specs.declared.changes.DeviceChange.{DeviceChange}
use Rattle.crush_map.specs.declared.limits.TheConstants.{NUMBER_LIMIT}
use Rattle.crush_choose.specs.declared.weights.TheConstants.{FULL}
use Rattle.crush_pool.specs.declared.limits.TheConstants.{CHANGE_LIMIT}

-- ---- the form

abbrev pub device_head : List (List ℕ)
device_head = codes "id" ∷ codes "reweight" ∷ codes "up" ∷ []

-- 1 to 10 digits that write n, which is at most a greatest
pub record IsNumber (greatest : ℕ) (text : List ℕ) (n : ℕ) : Type 0 where
  pub number : number_of text ≡ Some n
  pub most : n ≤ greatest

-- 1 or 0
abbrev pub IsFlag : List ℕ → Bool → Type 0
IsFlag text true = text ≡ codes "1"
IsFlag text false = text ≡ codes "0"

-- there is something to say, and the text says it
abbrev pub Says : {A : Type 0} → (List ℕ → A → Type 0) → List ℕ → Option A → Type 0
Says Is text None = ⊥
Says Is text (Some a) = Is text a

-- a record of three fields: id 0..NUMBER_LIMIT, reweight 0..FULL, and whether it is up
pub record IsChangeRecord (fields : List (List ℕ)) (c : DeviceChange) : Type 0 where
  pub id : List ℕ
  pub weight : List ℕ
  pub flag : List ℕ
  pub three : fields ≡ id ∷ weight ∷ flag ∷ []
  pub device : IsNumber NUMBER_LIMIT id c.device
  pub reweight : Says (IsNumber FULL) weight c.reweight
  pub up : Says IsFlag flag c.up

-- the head, and then a record of each of 1 to CHANGE_LIMIT changes, each of another device
pub record IsDeviceCsv (text : List ℕ) (cs : List DeviceChange) : Type 0 where
  pub rows : List (List (List ℕ))
  pub table : records default_config (strip_bom text) ≡ device_head ∷ rows
  pub each : AllZip IsChangeRecord rows cs
  pub some : 1 ≤ length cs
  pub few : length cs ≤ CHANGE_LIMIT
  pub distinct : AllPairs (λ c e. c.device ≢ e.device) cs

-- ---- reading: changes are read exactly where the text has that form
-- (law `device_csvs_are_of_the_form`)

-- the number from 0 to a greatest that 1 to 10 digits write
abbrev pub number_up_to : ℕ → List ℕ → Option ℕ
number_up_to greatest text = option_and_then (λ n. if nat_le n greatest then Some n else None) (number_of text)

-- 1 is true, 0 is false
abbrev pub flag_of : List ℕ → Option Bool
flag_of text = if bytes_eq text (codes "1") then Some true else if bytes_eq text (codes "0") then Some false else None

abbrev pub change_with : ℕ → ℕ → Bool → DeviceChange
change_with device reweight up = record { device = device; reweight = Some reweight; up = Some up }

-- 0..NUMBER_LIMIT, 0..FULL, and 0 or 1
abbrev pub change_of_fields : List ℕ → List ℕ → List ℕ → Option DeviceChange
change_of_fields id reweight up =
    option_and_then (λ d. option_and_then (λ w. option_map (change_with d w) (flag_of up)) (number_up_to FULL reweight)) (number_up_to NUMBER_LIMIT id)

-- the fields of a record that has three
unfoldable pub three_of : List (List ℕ) → Option (List ℕ × List ℕ × List ℕ)
three_of [] = None
three_of (a ∷ []) = None
three_of (a ∷ b ∷ []) = None
three_of (a ∷ b ∷ c ∷ []) = Some (a, b, c)
three_of (a ∷ b ∷ c ∷ d ∷ more) = None

-- the change that a record says
abbrev pub change_of : List (List ℕ) → Option DeviceChange
change_of fields = option_and_then (λ f. change_of_fields f.0 f.1 f.2) (three_of fields)

abbrev pub before : DeviceChange → Option (List DeviceChange) → Option (List DeviceChange)
before c others = option_map (λ cs. c ∷ cs) others

-- the changes that records say, each of which has to say one
abbrev pub changes_of : List (List (List ℕ)) → Option (List DeviceChange)
changes_of [] = Some []
changes_of (r ∷ rs) = option_and_then (λ c. before c (changes_of rs)) (change_of r)

abbrev pub is_head_of_three : List ℕ × List ℕ × List ℕ → Bool
is_head_of_three f = bytes_eq f.0 (codes "id") && bytes_eq f.1 (codes "reweight") && bytes_eq f.2 (codes "up")

abbrev pub is_head : List (List ℕ) → Bool
is_head fields = option_map_or is_head_of_three (three_of fields) false

abbrev pub if_valid : List DeviceChange → Option (List DeviceChange)
if_valid cs = if are_valid_changes cs then Some cs else None

-- the head first, and then 1 to CHANGE_LIMIT changes, each of another device
abbrev pub changes_under_head : List (List (List ℕ)) → Option (List DeviceChange)
changes_under_head [] = None
changes_under_head (head ∷ rows) = if is_head head then option_and_then if_valid (changes_of rows) else None

-- the changes that a text of this form says; none for any other text
abbrev pub device_changes_of : List ℕ → Option (List DeviceChange)
device_changes_of text = changes_under_head (records default_config (strip_bom text))
