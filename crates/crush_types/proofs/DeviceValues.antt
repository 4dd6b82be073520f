-- The values of all ids, from a table that has those of the first ids.
use Rattle.std.proofs.Common.{◌≡◌, ℕ, suc, ◌+◌, ◌-◌, ◌<◌, ◌≤◌, ◌==◌, List, [], ◌∷◌, ◌++◌, length, map, set, take, drop, replicate, slice_index_or, true, false, nat_lt, refl, sym, ap, ◌∙◌, arith, inl, inr, length-append, length-set, append_assoc}
use Rattle.std.proofs.Math.ListN.{get_or-append}
use Rattle.std.proofs.Math.Seq.{drop-cons}
use Rattle.std.proofs.lemmas.Bool.{cases_lt, cases_eq}
use Rattle.std.proofs.lemmas.Bool.Decides.{nat_tests}
use Rattle.std.proofs.lemmas.List.{take_all, set_past, ext_get_or, get_or_past, length-replicate, get_or-replicate, get_or-append_right, get_or-set_same, get_or-set_other, replicate-append-replicate, set-append_left}
use Rattle.std.proofs.lemmas.List.FromFn.{length-map-range_with_len, get_or-map-range_with_len}
use Rattle.std.specs.List.{range_with_len}
use Rattle.crush_types.specs.declared.limits.TheConstants.{ID_COUNT}
use Rattle.crush_types.specs.DeviceValues.{Values, all, with_value, value_at, first_given, value_of, values_of}
use Rattle.crush_types.specs.Private.Padded.{padded}

-- ---- pairs

below_count : {T : Type 0} (rest : T) (given : List (ℕ × T)) (id : ℕ) → id < ID_COUNT → value_of rest given id ≡ first_given rest given id
below_count rest given id lt = let test : nat_lt id ID_COUNT ≡ true = grind (arith, nat_tests) in rw test refl

above_count : {T : Type 0} (rest : T) (given : List (ℕ × T)) (id : ℕ) → ID_COUNT ≤ id → value_of rest given id ≡ rest
above_count rest given id le = let test : nat_lt id ID_COUNT ≡ false = grind (arith, nat_tests) in rw test refl

-- a pair for another id is skipped
passed_over : {T : Type 0} (rest : T) (given : ℕ × T) (more : List (ℕ × T)) (id : ℕ) → (given.0 ≡ id → ⊥) → first_given rest (given ∷ more) id ≡ first_given rest more id
passed_over rest given more id other = let test : (given.0 == id) ≡ false = grind (arith, nat_tests, other) in rw test refl

taken : {T : Type 0} (rest : T) (given : ℕ × T) (more : List (ℕ × T)) (id : ℕ) → given.0 ≡ id → first_given rest (given ∷ more) id ≡ given.1
taken rest given more id same = let test : (given.0 == id) ≡ true = grind (arith, nat_tests, same) in rw test refl

length-values_of : {T : Type 0} (rest : T) (given : List (ℕ × T)) → length (values_of rest given).values ≡ ID_COUNT
unfolding values_of
length-values_of rest given = length-map-range_with_len (value_of rest given) 0 ID_COUNT

at_id : {T : Type 0} (rest : T) (given : List (ℕ × T)) (id : ℕ) (d : T) → id < ID_COUNT → slice_index_or (values_of rest given).values id d ≡ value_of rest given id
unfolding values_of
at_id rest given id d lt = get_or-map-range_with_len (value_of rest given) 0 ID_COUNT id id d lt (omega arith)

rest-values_of : {T : Type 0} (rest : T) (given : List (ℕ × T)) → (values_of rest given).rest ≡ rest
unfolding values_of
rest-values_of rest given = refl

-- the value of an id in the table of pairs
pub value-values_of : {T : Type 0} (rest : T) (given : List (ℕ × T)) (id : ℕ) → value_at (values_of rest given) id ≡ value_of rest given id
value-values_of rest given id = elim (cases_lt id ID_COUNT) [
  | inl lt ↦ at_id rest given id (values_of rest given).rest lt
  | inr le ↦
      let past : length (values_of rest given).values ≤ id = rw (length-values_of rest given) le in
      get_or_past (values_of rest given).values id (values_of rest given).rest past ∙ (rest-values_of rest given ∙ sym (above_count rest given id le))
]

-- ---- a table

all_rest : {T : Type 0} (n : ℕ) (rest : T) (place : ℕ) → slice_index_or (replicate n rest) place rest ≡ rest
all_rest n rest place = elim (cases_lt place n) [
  | inl lt ↦ get_or-replicate n place rest rest lt
  | inr le ↦ get_or_past (replicate n rest) place rest (omega (arith, length-replicate n rest))
]

pub in_table : {T : Type 0} (rest : T) (table : List T) (id : ℕ) → id < length table → slice_index_or (padded rest table) id rest ≡ slice_index_or table id rest
unfolding padded
in_table rest table id lt = get_or-append table (replicate (ID_COUNT - length table) rest) rest id lt

pub past_table : {T : Type 0} (rest : T) (table : List T) (id : ℕ) → length table ≤ id → slice_index_or (padded rest table) id rest ≡ rest
unfolding padded
past_table rest table id le =
    get_or-append_right table (replicate (ID_COUNT - length table) rest) (length table) id rest refl le ∙ all_rest (ID_COUNT - length table) rest (id - length table)

length-padded : {T : Type 0} (rest : T) (table : List T) → length table ≤ ID_COUNT → length (padded rest table) ≡ ID_COUNT
unfolding padded
length-padded rest table few = omega (arith, few, length-append table (replicate (ID_COUNT - length table) rest), length-replicate (ID_COUNT - length table) rest)

-- a longer table has the same values
pub padded-longer : {T : Type 0} (rest : T) (table : List T) (n : ℕ) → length table + n ≤ ID_COUNT → padded rest (table ++ replicate n rest) ≡ padded rest table
unfolding padded
padded-longer rest table n fits =
    let len : length (table ++ replicate n rest) ≡ length table + n = omega (arith, length-append table (replicate n rest), length-replicate n rest) in
    let whole : n + (ID_COUNT - (length table + n)) ≡ ID_COUNT - length table = omega (arith, fits) in
    rw len (append_assoc table (replicate n rest) (replicate (ID_COUNT - (length table + n)) rest)
    ∙ ap (λ more. table ++ more) (replicate-append-replicate n (ID_COUNT - (length table + n)) rest ∙ ap (λ k. replicate k rest) whole))

-- a value is put into the table
pub padded-set : {T : Type 0} (rest : T) (table : List T) (id : ℕ) (value : T) → id < length table → padded rest (set table id value) ≡ set (padded rest table) id value
unfolding padded
padded-set rest table id value lt =
    rw (length-set table id value) (sym (set-append_left table (replicate (ID_COUNT - length table) rest) id value lt))

-- the table is extended to a length
pub padded-resized : {T : Type 0} (rest : T) (table : List T) (n len : ℕ) → len ≡ length table → len < n → n ≤ ID_COUNT → padded rest (take n table ++ replicate (n - len) rest) ≡ padded rest table
padded-resized rest table n len is longer fits =
    let all : take n table ≡ table = take_all n table (omega (arith, is, longer)) in
    rw all (padded-longer rest table (n - len) (omega (arith, is, longer, fits)))

-- a table without a value of its own
pub has_none : {T : Type 0} (rest : T) (table : List T) → padded rest table ≡ padded rest [] → record { values = padded rest table; rest = rest } ≡ all rest
unfolding padded all
has_none rest table is = rw is refl

-- a value is put into a table that was extended
pub is_set : {T : Type 0} (rest : T) (before table : List T) (id : ℕ) (value : T) → padded rest table ≡ padded rest before → id < length table →
    record { values = padded rest (set table id value); rest = rest } ≡ with_value (record { values = padded rest before; rest = rest }) id value
unfolding with_value
is_set rest before table id value same within = rw (padded-set rest table id value within, same) refl

-- an id that no device can have is passed over
pub is_past : {T : Type 0} (rest : T) (table : List T) (id : ℕ) (value : T) → length table ≤ ID_COUNT → ID_COUNT ≤ id →
    record { values = padded rest table; rest = rest } ≡ with_value (record { values = padded rest table; rest = rest }) id value
unfolding with_value
is_past rest table id value few past =
    let beyond : length (padded rest table) ≤ id = rw (length-padded rest table few) past in
    rw (set_past (padded rest table) id value beyond) refl

-- ---- the values of pairs

pub nothing_given : {T : Type 0} (rest : T) → all rest ≡ values_of rest []
unfolding all values_of
nothing_given rest = ap (λ values. record { values = values; rest = rest }) (ext_get_or rest (replicate ID_COUNT rest) (map (value_of rest []) (range_with_len 0 ID_COUNT))
    (length-replicate ID_COUNT rest ∙ sym (length-map-range_with_len (value_of rest []) 0 ID_COUNT)) (λ id less.
    let lt : id < ID_COUNT = rw (length-replicate ID_COUNT rest) at less in
    all_rest ID_COUNT rest id ∙ (sym (below_count rest [] id lt) ∙ sym (get_or-map-range_with_len (value_of rest []) 0 ID_COUNT id id rest lt (omega arith)))))

-- an id that has a pair has its value, whatever comes after
set_there : {T : Type 0} (rest : T) (given : List (ℕ × T)) (id : ℕ) (value : T) (other : ℕ) → other < ID_COUNT →
    slice_index_or (set (map (value_of rest given) (range_with_len 0 ID_COUNT)) id value) other rest ≡ value_of rest ((id, value) ∷ given) other
set_there rest given id value other lt =
    let values = map (value_of rest given) (range_with_len 0 ID_COUNT) in
    let len : length values ≡ ID_COUNT = length-map-range_with_len (value_of rest given) 0 ID_COUNT in
    elim (cases_eq id other) [
      | inl same ↦
          let within : id < length values = rw len (rw same lt) in
          rw (← same) (get_or-set_same values id value rest within) ∙ sym (below_count rest ((id, value) ∷ given) other lt ∙ taken rest (id, value) given other same)
      | inr differs ↦
          get_or-set_other values id other value rest (λ e. differs (sym e))
          ∙ (get_or-map-range_with_len (value_of rest given) 0 ID_COUNT other other rest lt (omega arith)
          ∙ (below_count rest given other lt ∙ sym (below_count rest ((id, value) ∷ given) other lt ∙ passed_over rest (id, value) given other differs)))
    ]

-- a pair before others puts its value in the place of theirs
pub pair_before : {T : Type 0} (rest : T) (given : List (ℕ × T)) (id : ℕ) (value : T) → with_value (values_of rest given) id value ≡ values_of rest ((id, value) ∷ given)
unfolding with_value values_of
pair_before rest given id value =
    let values = map (value_of rest given) (range_with_len 0 ID_COUNT) in
    let more = map (value_of rest ((id, value) ∷ given)) (range_with_len 0 ID_COUNT) in
    let len : length (set values id value) ≡ ID_COUNT = length-set values id value ∙ length-map-range_with_len (value_of rest given) 0 ID_COUNT in
    ap (λ values. record { values = values; rest = rest }) (ext_get_or rest (set values id value) more (len ∙ sym (length-map-range_with_len (value_of rest ((id, value) ∷ given)) 0 ID_COUNT)) (λ other less.
    let lt : other < ID_COUNT = rw len at less in
    set_there rest given id value other lt ∙ sym (get_or-map-range_with_len (value_of rest ((id, value) ∷ given)) 0 ID_COUNT other other rest lt (omega arith))))

-- the pair before a place is put into the table of those from the place on
pub pair_put : {T : Type 0} (rest : T) (given : List (ℕ × T)) (table new : Values T) (place : ℕ) (pair : ℕ × T) → 0 < place → place ≤ length given → table ≡ values_of rest (drop place given)
    → pair ≡ slice_index_or given (place - 1) pair → new ≡ with_value table pair.0 pair.1 → new ≡ values_of rest (drop (place - 1) given)
pair_put rest given table new place pair some within before at is =
    let short : place - 1 < length given = omega (arith, some, within) in
    let next : suc (place - 1) ≡ place = omega (arith, some) in
    is ∙ (ap (λ t. with_value t pair.0 pair.1) before ∙ (pair_before rest (drop place given) pair.0 pair.1
    ∙ ap (values_of rest) (ap (λ p. p ∷ drop place given) at ∙ sym (drop-cons given (place - 1) pair short ∙ ap (λ n. slice_index_or given (place - 1) pair ∷ drop n given) next))))
