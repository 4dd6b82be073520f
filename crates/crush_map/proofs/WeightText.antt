-- Weights, written and read.
use Rattle.std.proofs.Common.{◌≡◌, ◌∙◌, ◌⊎◌, ℕ, suc, ◌+◌, ◌*◌, ◌/◌, ◌%◌, ◌^◌, ◌<◌, ◌≤◌, ◌++◌, List, [], ◌∷◌, length, take, drop, Bool, true, false, not, cond, refl, sym, ap, subst, arith, get_or, Some, None, Option, nat_lt, inl, inr}
use Rattle.std.proofs.lemmas.Bool.Decides.{nat_tests}
use Rattle.std.proofs.lemmas.Fmt.{decimal_by_steps, decimal_digit, decimal_nonempty, length-decimal-le}
use Rattle.std.proofs.lemmas.List.{length-append, take-append-drop}
use Rattle.std.proofs.lemmas.List.Folds.{list_all-append}
use Rattle.std.proofs.lemmas.List.Quantifiers.{position-Some}
use Rattle.std.proofs.Math.Seq.{drop-cons, take-append_seam}
use Rattle.std.proofs.Math.Nat.{one-le-pow, le-div_iff_mul-le, div-lt_iff_lt-mul}
use Rattle.std.specs.Fmt.{decimal}
use Rattle.std.specs.List.{prefix_len, position, list_all}
use Rattle.crush_map.specs.declared.limits.TheConstants.{DIGIT_LIMIT, FRACTION_DIGIT_LIMIT}
use Rattle.crush_types.specs.declared.Weight.{Weight}
use Rattle.crush_map.specs.Faults.{is_name, is_name_byte}
use Rattle.crush_map.specs.WeightText.{is_digit, is_point, are_digits, number, without_point, in_65536ths, weight_below_2_to_32, weight_cut_at, weight_of, Writes, hundred_thousandths, five_digits, with_five_decimals, text_of}
use Rattle.crush_map.proofs.Digits.{both, number-push}

-- ---- the pieces of the text of a weight

pub written_is : (n : ℕ) → decimal (n / 100000) ++ 46 ∷ (decimal (n / 10000 % 10) ++ (decimal (n / 1000 % 10) ++ (decimal (n / 100 % 10) ++ (decimal (n / 10 % 10) ++ decimal (n % 10))))) ≡ with_five_decimals n
written_is n = rw (decimal_digit (n / 10000 % 10) (omega arith), decimal_digit (n / 1000 % 10) (omega arith), decimal_digit (n / 100 % 10) (omega arith), decimal_digit (n / 10 % 10) (omega arith), decimal_digit (n % 10) (omega arith)) refl

-- ---- the first point of a text

no_point : (d : ℕ) → is_digit d ≡ true → is_point d ≡ false
no_point d h = grind (arith, nat_tests)

no_point_in : (ds : List ℕ) → list_all is_digit ds ≡ true → prefix_len (λ x. not (is_point x)) ds ≡ length ds
no_point_in [] h = refl
no_point_in (d ∷ ds) h =
    let b = both (is_digit d) (list_all is_digit ds) h in
    let rest = no_point_in ds b.1 in
    rw (no_point d b.0) (omega arith)

no_point_before : (ds fs : List ℕ) → list_all is_digit ds ≡ true → prefix_len (λ x. not (is_point x)) (ds ++ 46 ∷ fs) ≡ length ds
no_point_before [] fs h = refl
no_point_before (d ∷ ds) fs h =
    let b = both (is_digit d) (list_all is_digit ds) h in
    let rest = no_point_before ds fs b.1 in
    rw (no_point d b.0) (omega arith)

not_before_itself : (n : ℕ) → nat_lt n n ≡ false
not_before_itself n = grind (arith, nat_tests)

within : (ds : List ℕ) (y : ℕ) (ys : List ℕ) → nat_lt (length ds) (length (ds ++ y ∷ ys)) ≡ true
within [] y ys = grind (arith, nat_tests)
within (d ∷ ds) y ys = let rest = within ds y ys in grind (arith, nat_tests)

no_point_at : (ds : List ℕ) → list_all is_digit ds ≡ true → position is_point ds ≡ None
no_point_at ds h = rw (no_point_in ds h, not_before_itself (length ds)) refl

point_at : (ds fs : List ℕ) → list_all is_digit ds ≡ true → position is_point (ds ++ 46 ∷ fs) ≡ Some (length ds)
point_at ds fs h = rw (no_point_before ds fs h, within ds 46 fs) refl

drop_suc : (ds : List ℕ) (y : ℕ) (ys : List ℕ) → drop (suc (length ds)) (ds ++ y ∷ ys) ≡ ys
drop_suc [] y ys = refl
drop_suc (d ∷ ds) y ys = drop_suc ds y ys

drop_behind : (ds : List ℕ) (y : ℕ) (ys : List ℕ) → drop (length ds + 1) (ds ++ y ∷ ys) ≡ ys
drop_behind ds y ys =
    let one_more : length ds + 1 ≡ suc (length ds) = omega arith in
    rw one_more (drop_suc ds y ys)

is_46 : (d : ℕ) → is_point d ≡ true → d ≡ 46
is_46 d h = grind (arith, nat_tests)

-- the parts before and after the point make up the text
cut_there : (text : List ℕ) (i : ℕ) → position is_point text ≡ Some i → text ≡ take i text ++ 46 ∷ drop (i + 1) text
cut_there text i e =
    let p = position-Some is_point text i 0 e in
    let one_more : suc i ≡ i + 1 = omega arith in
    let d : drop i text ≡ get_or text i 0 ∷ drop (i + 1) text = drop-cons text i 0 p.0 ∙ ap (λ k. get_or text i 0 ∷ drop k text) one_more in
    sym (take-append-drop i text) ∙ ap (λ ys. take i text ++ ys) (d ∙ ap (λ y. y ∷ drop (i + 1) text) (is_46 _ p.1))

all_digits : (low high : ℕ) (text : List ℕ) → are_digits low high text ≡ true → list_all is_digit text ≡ true
all_digits low high text h = (both _ _ h).1

-- ---- values

some_same : (v w : Weight) → Some v ≡ Some w → v ≡ w
some_same v w h = cc

below_cases : (n : ℕ) (w : Weight) (b : Bool) → nat_lt n (2 ^ 32) ≡ b → cond b (Some (record { 0 = n })) None ≡ Some w → (w.0 ≡ n) × (n < 2 ^ 32)
below_cases n w true e h = (ap (λ v. v.0) (sym (some_same _ _ h)), grind (arith, nat_tests))
below_cases n w false e h = cc

below_says : (n : ℕ) (w : Weight) → weight_below_2_to_32 n ≡ Some w → (w.0 ≡ n) × (n < 2 ^ 32)
below_says n w h = below_cases n w (nat_lt n (2 ^ 32)) refl h

says_below : (n : ℕ) (w : Weight) → n ≡ w.0 → w.0 < 2 ^ 32 → weight_below_2_to_32 n ≡ Some w
says_below n w e lt =
    let small : nat_lt n (2 ^ 32) ≡ true = grind (arith, nat_tests) in
    rw (small, e) refl

-- a value rounded down, by a quotient or by bounds
floor_bounds : (n d w : ℕ) → 0 < d → w ≡ n / d → (w * d ≤ n) × (n < (w + 1) * d)
floor_bounds n d w some e =
    let low : w ≤ n / d = omega arith in
    let high : n / d < w + 1 = omega arith in
    ((le-div_iff_mul-le some).0 low, (div-lt_iff_lt-mul some).0 high)

bounds_floor : (n d w : ℕ) → 0 < d → w * d ≤ n → n < (w + 1) * d → n / d ≡ w
bounds_floor n d w some low high =
    let a : w ≤ n / d = (le-div_iff_mul-le some).1 low in
    let b : n / d < w + 1 = (div-lt_iff_lt-mul some).1 high in
    omega arith

some_power : (fraction : List ℕ) → 0 < 10 ^ length fraction
some_power fraction = one-le-pow (length fraction) 10 (omega arith)

-- ---- the weight that a text writes is read from it

-- what follows if a conditional has a value: its test is true
passed : (b : Bool) (o : Option Weight) (w : Weight) → cond b o None ≡ Some w → (b ≡ true) × (o ≡ Some w)
passed true o w h = (refl, h)
passed false o w h = cc

writes : (text whole fraction : List ℕ) (w : Weight) → are_digits 1 DIGIT_LIMIT whole ≡ true → ((text ≡ whole) × (fraction ≡ [])) ⊎ ((text ≡ whole ++ 46 ∷ fraction) × (are_digits 1 FRACTION_DIGIT_LIMIT fraction ≡ true)) → weight_below_2_to_32 (in_65536ths whole fraction) ≡ Some w → Writes text w
writes text whole fraction w digits form h =
    let s = below_says (in_65536ths whole fraction) w h in
    let b = floor_bounds (without_point whole fraction * 65536) (10 ^ length fraction) w.0 (some_power fraction) s.0 in
    record { whole = whole; fraction = fraction; digits = digits; form = form; reached = b.0; not_more = b.1; fits = omega (arith, s.0, s.1) }

written_at : (text : List ℕ) (w : Weight) (o : Option ℕ) → position is_point text ≡ o → weight_cut_at text o ≡ Some w → Writes text w
written_at text w None e h =
    let p = passed _ _ w h in
    writes text text [] w p.0 (inl (refl, refl)) p.1
written_at text w (Some i) e h =
    let p = passed _ _ w h in
    let d = both _ _ p.0 in
    writes text (take i text) (drop (i + 1) text) w d.0 (inr (cut_there text i e, d.1)) p.1

value_is : (whole fraction : List ℕ) (w : Weight) → w.0 * 10 ^ length fraction ≤ without_point whole fraction * 65536 → without_point whole fraction * 65536 < (w.0 + 1) * 10 ^ length fraction → w.0 < 2 ^ 32 → weight_below_2_to_32 (in_65536ths whole fraction) ≡ Some w
value_is whole fraction w reached not_more fits = says_below _ w (bounds_floor _ _ w.0 (some_power fraction) reached not_more) fits

reads_whole : (whole : List ℕ) (w : Weight) → are_digits 1 DIGIT_LIMIT whole ≡ true → w.0 * 10 ^ length {A = ℕ} [] ≤ without_point whole [] * 65536 → without_point whole [] * 65536 < (w.0 + 1) * 10 ^ length {A = ℕ} [] → w.0 < 2 ^ 32 → weight_cut_at whole (position is_point whole) ≡ Some w
reads_whole whole w digits reached not_more fits =
    rw (no_point_at whole (all_digits 1 10 whole digits), digits) (value_is whole [] w reached not_more fits)

reads_cut : (whole fraction : List ℕ) (w : Weight) → are_digits 1 DIGIT_LIMIT whole ≡ true → are_digits 1 FRACTION_DIGIT_LIMIT fraction ≡ true → w.0 * 10 ^ length fraction ≤ without_point whole fraction * 65536 → without_point whole fraction * 65536 < (w.0 + 1) * 10 ^ length fraction → w.0 < 2 ^ 32 → weight_cut_at (whole ++ 46 ∷ fraction) (position is_point (whole ++ 46 ∷ fraction)) ≡ Some w
reads_cut whole fraction w digits decimals reached not_more fits =
    rw (point_at whole fraction (all_digits 1 10 whole digits), take-append_seam whole (46 ∷ fraction), drop_behind whole 46 fraction, digits, decimals) (value_is whole fraction w reached not_more fits)

pub Writes-from_reading : (text : List ℕ) (w : Weight) → weight_of text ≡ Some w → Writes text w
unfolding weight_of
Writes-from_reading text w h = written_at text w (position is_point text) refl h

pub reading-from_Writes : (text : List ℕ) (w : Weight) → Writes text w → weight_of text ≡ Some w
unfolding weight_of
reading-from_Writes text w h = elim h.form [
  | inl f ↦ rw (f.0) (reads_whole h.whole w h.digits (subst (λ ys. w.0 * 10 ^ length ys ≤ without_point h.whole ys * 65536) f.1 h.reached) (subst (λ ys. without_point h.whole ys * 65536 < (w.0 + 1) * 10 ^ length ys) f.1 h.not_more) h.fits)
  | inr f ↦ rw (f.0) (reads_cut h.whole h.fraction w h.digits f.1 h.reached h.not_more h.fits)
]

-- ---- a weight is read from its own text

-- digits that write a number
record WritesNumber (n : ℕ) (ds : List ℕ) : Type 0 where
  pub digits : list_all is_digit ds ≡ true
  pub value : number ds ≡ n

a_digit : (d : ℕ) → d < 10 → is_digit (48 + d) ≡ true
a_digit d h = grind (arith, nat_tests)

one_digit : (n : ℕ) → n < 10 → WritesNumber n ((48 + n) ∷ [])
one_digit n h = record { digits = rw (a_digit n h) refl; value = omega arith }

more_digits : (n : ℕ) (ds : List ℕ) → 10 ≤ n → WritesNumber (n / 10) ds → WritesNumber n (ds ++ ((48 + n % 10) ∷ []))
more_digits n ds h r = record {
  digits = rw (list_all-append is_digit ds ((48 + n % 10) ∷ []), r.digits, a_digit (n % 10) (omega arith)) refl;
  value = rw (number-push ds (48 + n % 10), r.value) (omega arith);
}

decimal_writes : (n : ℕ) → n < 2 ^ 64 → WritesNumber n (decimal n)
decimal_writes n h = decimal_by_steps WritesNumber one_digit more_digits n h

pub are_digits-decimal : (n : ℕ) → n < 10 ^ 10 → are_digits 1 DIGIT_LIMIT (decimal n) ≡ true
are_digits-decimal n lt =
    let some = decimal_nonempty n (omega arith) in
    let few : length (decimal n) ≤ 10 = length-decimal-le 10 n (omega arith) lt (omega arith) in
    rw ((decimal_writes n (omega arith)).digits) (grind (arith, nat_tests))

pub number-decimal : (n : ℕ) → n < 2 ^ 64 → number (decimal n) ≡ n
number-decimal n h = (decimal_writes n h).value

are_five_digits : (n : ℕ) → are_digits 1 FRACTION_DIGIT_LIMIT (five_digits n) ≡ true
are_five_digits n = rw (a_digit (n / 10000 % 10) (omega arith), a_digit (n / 1000 % 10) (omega arith), a_digit (n / 100 % 10) (omega arith), a_digit (n / 10 % 10) (omega arith), a_digit (n % 10) (omega arith)) refl

number-five_digits : (n : ℕ) → n / 100000 * 100000 + number (five_digits n) ≡ n
number-five_digits n = omega arith

without_point-five : (n : ℕ) → n < 2 ^ 64 → without_point (decimal (n / 100000)) (five_digits n) ≡ n
without_point-five n h = rw (number-decimal (n / 100000) (omega arith)) (number-five_digits n)

rounded_reached : (w : Weight) → w.0 * 100000 ≤ hundred_thousandths w * 65536
rounded_reached w = omega arith

rounded_not_more : (w : Weight) → hundred_thousandths w * 65536 < (w.0 + 1) * 100000
rounded_not_more w = omega arith

pub Writes-text_of : (w : Weight) → w.0 < 2 ^ 32 → Writes (text_of w) w
unfolding text_of
Writes-text_of w lt =
    let n = hundred_thousandths w in
    let e = without_point-five n (omega arith) in
    record {
      whole = decimal (n / 100000);
      fraction = five_digits n;
      digits = are_digits-decimal (n / 100000) (omega arith);
      form = inr (refl, are_five_digits n);
      reached = rw e (rounded_reached w);
      not_more = rw e (rounded_not_more w);
      fits = lt;
    }

pub comes_back : (w : Weight) → w.0 < 2 ^ 32 → weight_of (text_of w) ≡ Some w
comes_back w lt = reading-from_Writes (text_of w) w (Writes-text_of w lt)

-- ---- the text of a weight has the form of a name

digit_in_name : (d : ℕ) → is_digit d ≡ true → is_name_byte d ≡ true
digit_in_name d h = grind (arith, nat_tests)

digits_in_name : (ds : List ℕ) → list_all is_digit ds ≡ true → list_all is_name_byte ds ≡ true
digits_in_name [] h = refl
digits_in_name (d ∷ ds) h =
    let b = both (is_digit d) (list_all is_digit ds) h in
    rw (digit_in_name d b.0) (digits_in_name ds b.1)

name_bytes-text_of : (w : Weight) → w.0 < 2 ^ 32 → list_all is_name_byte (text_of w) ≡ true
unfolding text_of
name_bytes-text_of w lt =
    let n = hundred_thousandths w in
    let front = digits_in_name (decimal (n / 100000)) (decimal_writes (n / 100000) (omega arith)).digits in
    let back = digits_in_name (five_digits n) (all_digits 1 20 (five_digits n) (are_five_digits n)) in
    rw (list_all-append is_name_byte (decimal (n / 100000)) (46 ∷ five_digits n), front) back

length-text_of : (w : Weight) → w.0 < 2 ^ 32 → length (text_of w) ≤ 16
unfolding text_of
length-text_of w lt =
    let n = hundred_thousandths w in
    let front : length (decimal (n / 100000)) ≤ 10 = length-decimal-le 10 (n / 100000) (omega arith) (omega arith) (omega arith) in
    let whole = length-append (decimal (n / 100000)) (46 ∷ five_digits n) in
    omega arith

nonempty-text_of : (w : Weight) → w.0 < 2 ^ 32 → 1 ≤ length (text_of w)
unfolding text_of
nonempty-text_of w lt =
    let n = hundred_thousandths w in
    let whole = length-append (decimal (n / 100000)) (46 ∷ five_digits n) in
    omega arith

pub is_name-text_of : (w : Weight) → w.0 < 2 ^ 32 → is_name (text_of w) ≡ true
is_name-text_of w lt =
    let low = nonempty-text_of w lt in
    let high = length-text_of w lt in
    rw (name_bytes-text_of w lt) (grind (arith, nat_tests))
