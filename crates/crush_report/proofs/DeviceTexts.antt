-- Records of three fields, and the records of a text that a reader has reached.
use Rattle.std.proofs.Common.{◌≡◌, ◌<◌, ◌∙◌, ℕ, suc, List, [], ◌∷◌, length, take, Some, None, refl, sym, ap, inl, inr, true, false, arith}
use Rattle.std.specs.Prelude.{Option, Bool, nat_le, if◌then◌else◌, option_and_then, ◌&&◌}
use Rattle.std.proofs.lemmas.Bool.{cases_Bool}
use Rattle.std.proofs.lemmas.List.{length-take-le, take_all}
use Rattle.csv.specs.Records.{field_at}
use Rattle.crush_pool.specs.Changes.{are_distinct}
use Rattle.crush_report.specs.DeviceCsv.{before, change_of, changes_of, changes_under_head, if_valid, is_head, three_of}
use Rattle.crush_pool.specs.declared.changes.DeviceChange.{DeviceChange}
use Rattle.crush_pool.specs.declared.limits.TheConstants.{CHANGE_LIMIT}

pub no_three : (fields : List (List ℕ)) → (length fields ≡ 3 → ⊥) → three_of fields ≡ None
unfolding three_of
no_three [] h = refl
no_three (a ∷ []) h = refl
no_three (a ∷ b ∷ []) h = refl
no_three (a ∷ b ∷ c ∷ []) h = absurd (h refl)
no_three (a ∷ b ∷ c ∷ d ∷ more) h = refl

pub all_three : (fields : List (List ℕ)) (a b c : List ℕ) → length fields ≡ 3 → Some a ≡ field_at fields 0 → Some b ≡ field_at fields 1 → Some c ≡ field_at fields 2
    → Some (a, b, c) ≡ three_of fields
unfolding three_of field_at
all_three [] a b c h e f g = cc
all_three (x ∷ []) a b c h e f g = cc
all_three (x ∷ y ∷ []) a b c h e f g = cc
all_three (x ∷ y ∷ z ∷ []) a b c h e f g = cc
all_three (x ∷ y ∷ z ∷ d ∷ more) a b c h e f g = absurd (omega arith)

-- ---- what is more than a text of the form has makes no difference

changes_count : (rows : List (List (List ℕ))) (cs : List DeviceChange) → changes_of rows ≡ Some cs → length cs ≡ length rows
changes_count [] cs e =
    let none : [] ≡ cs = cc in
    rw (← none) refl
changes_count (row ∷ rows) cs e = on_change (change_of row) (changes_count rows) e
  where
    on_others : (found : Option (List DeviceChange)) (c : DeviceChange) → ((others : List DeviceChange) → found ≡ Some others → length others ≡ length rows)
        → before c found ≡ Some cs → length cs ≡ suc (length rows)
    on_others None c count e = cc
    on_others (Some others) c count e =
        let whole : (c ∷ others) ≡ cs = cc in
        rw (← whole) (ap suc (count others refl))

    on_change : (found : Option DeviceChange) → ((others : List DeviceChange) → changes_of rows ≡ Some others → length others ≡ length rows)
        → option_and_then (λ c. before c (changes_of rows)) found ≡ Some cs → length cs ≡ suc (length rows)
    on_change None count e = cc
    on_change (Some c) count e = on_others (changes_of rows) c count e

no_room : (cs : List DeviceChange) → nat_le (length cs) CHANGE_LIMIT ≡ false → if_valid cs ≡ None
no_room cs e = one (nat_le 1 (length cs)) (are_distinct cs)
  where
    one : (a b : Bool) → (if a && nat_le (length cs) CHANGE_LIMIT && b then Some cs else None) ≡ None
    one true b = rw e refl
    one false b = refl

too_many : (rows : List (List (List ℕ))) → CHANGE_LIMIT < length rows → option_and_then if_valid (changes_of rows) ≡ None
too_many rows h = on_found (changes_of rows) refl
  where
    on_found : (found : Option (List DeviceChange)) → changes_of rows ≡ found → option_and_then if_valid found ≡ None
    on_found None e = refl
    on_found (Some cs) e =
        let over : nat_le (length cs) CHANGE_LIMIT ≡ false = grind (arith, changes_count rows cs e, h) in
        no_room cs over

pub first_suffice : (n : ℕ) (rows : List (List (List ℕ))) → CHANGE_LIMIT < n → changes_under_head (take (suc n) rows) ≡ changes_under_head rows
first_suffice n [] h = refl
first_suffice n (head ∷ rows) h = ap (λ found. if is_head head then found else None) (elim (cases_Bool (nat_le (length rows) n)) [
  | inl few ↦ ap (λ rs. option_and_then if_valid (changes_of rs)) (take_all n rows (grind (arith, few)))
  | inr many ↦
      let more : n < length rows = grind (arith, many) in
      let taken : length (take n rows) ≡ n = length-take-le n rows (omega arith) in
      too_many (take n rows) (omega arith) ∙ sym (too_many rows (omega arith))
])
