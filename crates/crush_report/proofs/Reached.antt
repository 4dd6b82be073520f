-- The records of a text, from those that a reader has reached.
use Rattle.std.proofs.Common.{◌≡◌, ◌≤◌, ◌<◌, ◌+◌, ◌-◌, ◌++◌, ◌∷◌, ◌∙◌, [], ℕ, zero, suc, List, Bool, true, false, Some, None, length, take, refl, sym, ap, arith}
use Rattle.std.specs.Prelude.{◌==◌, ◌||◌, if◌then◌else◌, Option}
use Rattle.std.proofs.lemmas.Bool.{false≢true}
use Rattle.std.proofs.Math.Seq.{take-append_seam}
use Rattle.std.proofs.lemmas.List.{append-nil, take_all}
use Rattle.csv.specs.Machine.{Read, ends_at_end, is_end, next_record, step, in_field, start_field, start_record, fields_after, field_after}
use Rattle.csv.specs.Reading.{AreRecords, ExplainsRead, Reached, default_config, is_flexible, records, records_from, stops_reader}
use Rattle.csv.specs.declared.error.ErrorKind.{ErrorKind}
use Rattle.csv.specs.declared.error.ErrorKind.TheVariants as kind
use Rattle.csv.specs.declared.parser.Action.{Action}
use Rattle.csv.specs.declared.parser.Action.TheVariants as act
use Rattle.csv.specs.declared.parser.State.{State}
use Rattle.csv.specs.declared.parser.State.TheVariants as st
use Rattle.csv.specs.declared.reader.Reader.{Reader}

-- ---- a record ends between records

abbrev Closes : State × Action → Type 0
Closes p = is_end p.1 ≡ true → ends_at_end p.0 ≡ false

either : (b : Bool) (x y : State × Action) → Closes x → Closes y → Closes (if b then x else y)
either true x y a b = a
either false x y a b = b

ending : (c : ℕ) → Closes (if c == 13 then st.AfterCr else st.StartRecord, act.EndRecord)
ending c h = by (c == 13)
  where
    by : (b : Bool) → ends_at_end (if b then st.AfterCr else st.StartRecord) ≡ false
    by true = refl
    by false = refl

in_field_closes : (c : ℕ) → Closes (in_field default_config c)
in_field_closes c = either (c == 44) _ _ (λ h. cc) (either ((c == 13) || (c == 10)) _ _ (ending c) (λ h. cc))

start_field_closes : (c : ℕ) → Closes (start_field default_config c)
start_field_closes c = either (c == 34) _ _ (λ h. cc) (in_field_closes c)

start_record_closes : (c : ℕ) → Closes (start_record default_config c)
start_record_closes c = either ((c == 13) || (c == 10)) _ _ (λ h. cc) (start_field_closes c)

step_closes : (s : State) (c : ℕ) → Closes (step default_config s c)
step_closes st.StartRecord c = start_record_closes c
step_closes st.StartField c = start_field_closes c
step_closes st.InField c = in_field_closes c
step_closes st.InQuoted c = either (c == 34) _ _ (λ h. cc) (λ h. cc)
step_closes st.InEscape c = λ h. cc
step_closes st.AfterQuote c = either (c == 34) _ _ (λ h. cc) (in_field_closes c)
step_closes st.InComment c = either (c == 10) _ _ (λ h. cc) (λ h. cc)
step_closes st.AfterCr c = either (c == 10) _ _ (λ h. cc) (start_record_closes c)

-- ---- a record takes bytes

record Leaves (p : Read) (size : ℕ) : Type 0 where
  few : length p.2 ≤ size
  between : ends_at_end p.1 ≡ false

read_leaves : (s : State) (fields : List (List ℕ)) (field xs : List ℕ) (p : Read) → next_record default_config s fields field xs ≡ Some p → Leaves p (length xs)
unfolding next_record
read_leaves s fields field [] p h = at_end (ends_at_end s) h
  where
    at_end : (b : Bool) → (if b then Some (fields ++ (field ∷ []), st.StartRecord, []) else None) ≡ Some p → Leaves p 0
    at_end true e =
        let q : (fields ++ (field ∷ []), st.StartRecord, []) ≡ p = cc in
        rw (← q) (record { few = omega arith; between = refl })
    at_end false e = cc e
read_leaves s fields field (c ∷ xs) p h =
    on_byte (is_end (step default_config s c).1) (read_leaves (step default_config s c).0 (fields_after (step default_config s c).1 fields field) (field_after (step default_config s c).1 c field) xs p) refl h
  where
    on_byte : (b : Bool)
        → (next_record default_config (step default_config s c).0 (fields_after (step default_config s c).1 fields field) (field_after (step default_config s c).1 c field) xs ≡ Some p → Leaves p (length xs))
        → is_end (step default_config s c).1 ≡ b
        → (if b then Some (fields_after (step default_config s c).1 fields field, (step default_config s c).0, xs)
        else next_record default_config (step default_config s c).0 (fields_after (step default_config s c).1 fields field) (field_after (step default_config s c).1 c field) xs) ≡ Some p
        → Leaves p (suc (length xs))
    on_byte true later i e =
        let q : (fields_after (step default_config s c).1 fields field, (step default_config s c).0, xs) ≡ p = cc in
        rw (← q) (record { few = omega arith; between = step_closes s c i })
    on_byte false later i e =
        let r = later e in
        record { few = omega (arith, r.few); between = r.between }

-- between records, a record takes a byte or more
read_takes : (s : State) (fields : List (List ℕ)) (field xs : List ℕ) (p : Read) → ends_at_end s ≡ false → next_record default_config s fields field xs ≡ Some p → length p.2 < length xs
unfolding next_record
read_takes s fields field [] p n h = cc (rw n at h)
read_takes s fields field (c ∷ xs) p n h = on_byte (is_end (step default_config s c).1) h
  where
    on_byte : (b : Bool)
        → (if b then Some (fields_after (step default_config s c).1 fields field, (step default_config s c).0, xs)
        else next_record default_config (step default_config s c).0 (fields_after (step default_config s c).1 fields field) (field_after (step default_config s c).1 c field) xs) ≡ Some p
        → length p.2 < suc (length xs)
    on_byte true e =
        let q : (fields_after (step default_config s c).1 fields field, (step default_config s c).0, xs) ≡ p = cc in
        rw (← q) (omega arith)
    on_byte false e =
        let r = read_leaves (step default_config s c).0 (fields_after (step default_config s c).1 fields field) (field_after (step default_config s c).1 c field) xs p e in
        omega (arith, r.few)

-- ---- the records that were reached are the first of all

reached_few : (rows : List (List (List ℕ))) (s s2 : State) (xs ys : List ℕ) → ends_at_end s ≡ false → Reached default_config s xs rows s2 ys → length rows ≤ length xs
unfolding Reached
reached_few [] s s2 xs ys n h = omega arith
reached_few (r ∷ rows) s s2 xs ys n h =
    let takes = read_takes s [] [] xs h.0 n h.1 in
    let leaves = read_leaves s [] [] xs h.0 h.1 in
    let more = reached_few rows h.0.1 s2 h.0.2 ys leaves.between h.3 in
    omega (arith, takes, more)

reached_first : (rows : List (List (List ℕ))) (n k : ℕ) (s s2 : State) (xs ys : List ℕ) → n ≡ length rows + k → Reached default_config s xs rows s2 ys
    → records_from default_config n s xs ≡ rows ++ records_from default_config k s2 ys
unfolding Reached records_from
reached_first [] n k s s2 xs ys e h =
    let same : n ≡ k = omega arith in
    rw (same, h.0, h.1) refl
reached_first (r ∷ rows) zero k s s2 xs ys e h = absurd (omega arith)
reached_first (r ∷ rows) (suc n) k s s2 xs ys e h =
    let count : n ≡ length rows + k = omega arith in
    let more = reached_first rows n k h.0.1 s2 h.0.2 ys count h.3 in
    rw (h.1, h.2, more) refl

pub reached_prefix : (rows : List (List (List ℕ))) (s2 : State) (xs ys : List ℕ) → Reached default_config st.StartRecord xs rows s2 ys
    → (more : List (List (List ℕ))) × (records default_config xs ≡ rows ++ more)
reached_prefix rows s2 xs ys h =
    let few = reached_few rows st.StartRecord s2 xs ys refl h in
    (records_from default_config (length xs + 1 - length rows) s2 ys, reached_first rows (length xs + 1) (length xs + 1 - length rows) st.StartRecord s2 xs ys (omega (arith, few)) h)

none_left : (k : ℕ) (s : State) (ys : List ℕ) → next_record default_config s [] [] ys ≡ None → records_from default_config k s ys ≡ []
unfolding records_from
none_left zero s ys e = refl
none_left (suc k) s ys e = rw e refl

pub reached_all : (rows : List (List (List ℕ))) (xs : List ℕ) → AreRecords default_config st.StartRecord xs rows → records default_config xs ≡ rows
reached_all rows xs (s2, ys, h, e) =
    let few = reached_few rows st.StartRecord s2 xs ys refl h in
    reached_first rows (length xs + 1) (length xs + 1 - length rows) st.StartRecord s2 xs ys (omega (arith, few)) h
    ∙ (ap (λ (t : List (List (List ℕ))). rows ++ t) (none_left (length xs + 1 - length rows) s2 ys e) ∙ append-nil rows)

-- ---- the same of the first records

pub all_are_first : (n : ℕ) (rows : List (List (List ℕ))) (xs : List ℕ) → length rows ≤ n → AreRecords default_config st.StartRecord xs rows → rows ≡ take n (records default_config xs)
all_are_first n rows xs few h = rw (reached_all rows xs h) (sym (take_all n rows few))

pub reached_are_first : (n : ℕ) (rows : List (List (List ℕ))) (s2 : State) (xs ys : List ℕ) → length rows ≡ n → Reached default_config st.StartRecord xs rows s2 ys
    → rows ≡ take n (records default_config xs)
reached_are_first n rows s2 xs ys e h =
    let (more, all) = reached_prefix rows s2 xs ys h in
    rw (all, ← e) (sym (take-append_seam rows more))

-- ---- errors

-- where records may have any length, an error is of the reader underneath or of memory
pub stops_if_flexible : {R : Type 0} (rem : R → Option (List ℕ)) (a b : Reader R) (why : ErrorKind) → is_flexible a ≡ true → ExplainsRead rem a b false why → stops_reader why ≡ true
stops_if_flexible rem a b (kind.Io e) any h = refl
stops_if_flexible rem a b kind.OutOfMemory any h = refl
stops_if_flexible rem a b (kind.UnequalLengths pos expected len) any h = absurd (false≢true (sym h.0 ∙ any))
stops_if_flexible rem a b (kind.Utf8 pos err) any h = absurd (false≢true h.0)
stops_if_flexible rem a b (kind.Serialize text) any h = absurd h
stops_if_flexible rem a b (kind.Deserialize pos err) any h = absurd h
