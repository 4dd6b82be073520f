-- Changes are read from a text exactly where it has their form.
use Rattle.std.proofs.Common.{◌≡◌, ◌∙◌, ℕ, List, [], ◌∷◌, Bool, true, false, Some, None, refl, ap, inl, inr, arith}
use Rattle.std.specs.Prelude.{Option, codes, ◌&&◌, if◌then◌else◌, nat_le, option_map, option_and_then}
use Rattle.std.specs.List.{AllZip}
use Rattle.std.specs.Str.{bytes_eq}
use Rattle.std.proofs.lemmas.Bool.{cases_Bool}
use Rattle.std.proofs.lemmas.Bool.Decides.{nat_tests, Decides-and}
use Rattle.std.proofs.lemmas.Slice.Eq.{bytes_eq-Decides}
use Rattle.csv.specs.Reading.{default_config, records, strip_bom}
use Rattle.crush_grammar.specs.Numbers.{number_of}
use Rattle.crush_pool.specs.Changes.{are_valid_changes}
use Rattle.crush_report.specs.DeviceCsv.{IsChangeRecord, IsDeviceCsv, IsFlag, IsNumber, Says, before, change_of, change_of_fields, change_with, changes_of, changes_under_head, device_changes_of, device_head, flag_of, if_valid, is_head, number_up_to, three_of}
use Rattle.crush_pool.specs.declared.changes.DeviceChange.{DeviceChange}
use Rattle.crush_pool.proofs.ValidChanges.{Decides-are_valid_changes}
use Rattle.crush_map.specs.declared.limits.TheConstants.{NUMBER_LIMIT}
use Rattle.crush_choose.specs.declared.weights.TheConstants.{FULL}

-- ---- fields

number_says : (greatest : ℕ) (text : List ℕ) (n : ℕ) → number_up_to greatest text ≡ Some n → IsNumber greatest text n
number_says greatest text n e = on_number (number_of text) refl e
  where
    on_test : (b : Bool) (m : ℕ) → number_of text ≡ Some m → nat_le m greatest ≡ b → (if b then Some m else None) ≡ Some n → IsNumber greatest text n
    on_test false m f t e = cc
    on_test true m f t e =
        let same : m ≡ n = cc in
        rw (← same) (record { number = f; most = grind (arith, nat_tests, t) })

    on_number : (found : Option ℕ) → number_of text ≡ found → option_and_then (λ m. if nat_le m greatest then Some m else None) found ≡ Some n → IsNumber greatest text n
    on_number None f e = cc
    on_number (Some m) f e = on_test (nat_le m greatest) m f refl e

number_found : (greatest : ℕ) (text : List ℕ) (n : ℕ) → IsNumber greatest text n → number_up_to greatest text ≡ Some n
number_found greatest text n is =
    let number = is.number in
    let most = is.most in
    let test : nat_le n greatest ≡ true = grind (arith, nat_tests, most) in
    rw (number, test) refl

flag_says : (text : List ℕ) (up : Bool) → flag_of text ≡ Some up → IsFlag text up
flag_says text up e = elim (cases_Bool (bytes_eq text (codes "1"))) [
  | inl one ↦
      let same : true ≡ up = cc (rw one at e) in
      rw (← same) ((bytes_eq-Decides text (codes "1")).0 one)
  | inr other ↦ elim (cases_Bool (bytes_eq text (codes "0"))) [
    | inl zero ↦
        let same : false ≡ up = cc (rw (other, zero) at e) in
        rw (← same) ((bytes_eq-Decides text (codes "0")).0 zero)
    | inr none ↦ cc (rw (other, none) at e)
  ]
]

flag_found : (text : List ℕ) (up : Bool) → IsFlag text up → flag_of text ≡ Some up
flag_found text true is = rw is refl
flag_found text false is = rw is refl

-- ---- records

change_fields_say : (id weight flag : List ℕ) (c : DeviceChange) → change_of_fields id weight flag ≡ Some c → IsChangeRecord (id ∷ weight ∷ flag ∷ []) c
change_fields_say id weight flag c e = on_device (number_up_to NUMBER_LIMIT id) refl e
  where
    on_flag : (found : Option Bool) (d w : ℕ) → number_up_to NUMBER_LIMIT id ≡ Some d → number_up_to FULL weight ≡ Some w → flag_of flag ≡ found
        → option_map (change_with d w) found ≡ Some c → IsChangeRecord (id ∷ weight ∷ flag ∷ []) c
    on_flag None d w f g h e = cc
    on_flag (Some b) d w f g h e =
        let same : change_with d w b ≡ c = cc in
        rw (← same) (record { id = id; weight = weight; flag = flag; three = refl; device = number_says NUMBER_LIMIT id d f; reweight = number_says FULL weight w g; up = flag_says flag b h })

    on_weight : (found : Option ℕ) (d : ℕ) → number_up_to NUMBER_LIMIT id ≡ Some d → number_up_to FULL weight ≡ found
        → option_and_then (λ w. option_map (change_with d w) (flag_of flag)) found ≡ Some c → IsChangeRecord (id ∷ weight ∷ flag ∷ []) c
    on_weight None d f g e = cc
    on_weight (Some w) d f g e = on_flag (flag_of flag) d w f g refl e

    on_device : (found : Option ℕ) → number_up_to NUMBER_LIMIT id ≡ found
        → option_and_then (λ d. option_and_then (λ w. option_map (change_with d w) (flag_of flag)) (number_up_to FULL weight)) found ≡ Some c → IsChangeRecord (id ∷ weight ∷ flag ∷ []) c
    on_device None f e = cc
    on_device (Some d) f e = on_weight (number_up_to FULL weight) d f refl e

change_says : (fields : List (List ℕ)) (c : DeviceChange) → change_of fields ≡ Some c → IsChangeRecord fields c
unfolding three_of
change_says [] c e = cc
change_says (id ∷ []) c e = cc
change_says (id ∷ weight ∷ []) c e = cc
change_says (id ∷ weight ∷ flag ∷ []) c e = change_fields_say id weight flag c e
change_says (id ∷ weight ∷ flag ∷ more ∷ others) c e = cc

change_found : (fields : List (List ℕ)) (c : DeviceChange) → IsChangeRecord fields c → change_of fields ≡ Some c
unfolding three_of
change_found fields c is = rw is.three (with c.device c.reweight c.up is.device is.reweight is.up)
  where
    with : (d : ℕ) (w : Option ℕ) (b : Option Bool) → IsNumber NUMBER_LIMIT is.id d → Says (IsNumber FULL) is.weight w → Says IsFlag is.flag b
        → change_of_fields is.id is.weight is.flag ≡ Some (record { device = d; reweight = w; up = b })
    with d None b f g h = absurd g
    with d (Some w) None f g h = absurd h
    with d (Some w) (Some b) f g h = rw (number_found NUMBER_LIMIT is.id d f, number_found FULL is.weight w g, flag_found is.flag b h) refl

changes_say : (rows : List (List (List ℕ))) (cs : List DeviceChange) → changes_of rows ≡ Some cs → AllZip IsChangeRecord rows cs
changes_say [] cs e =
    let none : [] ≡ cs = cc in
    rw (← none) tt
changes_say (row ∷ rows) cs e = on_change (change_of row) (changes_say rows) refl e
  where
    on_others : (found : Option (List DeviceChange)) (c : DeviceChange) → change_of row ≡ Some c → ((others : List DeviceChange) → found ≡ Some others → AllZip IsChangeRecord rows others)
        → before c found ≡ Some cs → AllZip IsChangeRecord (row ∷ rows) cs
    on_others None c f each e = cc
    on_others (Some others) c f each e =
        let whole : (c ∷ others) ≡ cs = cc in
        rw (← whole) (change_says row c f, each others refl)

    on_change : (found : Option DeviceChange) → ((others : List DeviceChange) → changes_of rows ≡ Some others → AllZip IsChangeRecord rows others)
        → change_of row ≡ found → option_and_then (λ c. before c (changes_of rows)) found ≡ Some cs → AllZip IsChangeRecord (row ∷ rows) cs
    on_change None each f e = cc
    on_change (Some c) each f e = on_others (changes_of rows) c f each e

changes_found : (rows : List (List (List ℕ))) (cs : List DeviceChange) → AllZip IsChangeRecord rows cs → changes_of rows ≡ Some cs
changes_found [] [] is = refl
changes_found [] (c ∷ cs) is = absurd is
changes_found (row ∷ rows) [] is = absurd is
changes_found (row ∷ rows) (c ∷ cs) is = rw (change_found row c is.0, changes_found rows cs is.1) refl

-- ---- texts

head_says : (fields : List (List ℕ)) → is_head fields ≡ true → fields ≡ device_head
unfolding three_of
head_says [] e = cc
head_says (a ∷ []) e = cc
head_says (a ∷ b ∷ []) e = cc
head_says (a ∷ b ∷ c ∷ []) e =
    let id_weight = Decides-and (bytes_eq a (codes "id")) (bytes_eq b (codes "reweight")) (bytes_eq-Decides a (codes "id")) (bytes_eq-Decides b (codes "reweight")) in
    let same = (Decides-and (bytes_eq a (codes "id") && bytes_eq b (codes "reweight")) (bytes_eq c (codes "up")) id_weight (bytes_eq-Decides c (codes "up"))).0 e in
    rw (same.0.0, same.0.1, same.1) refl
head_says (a ∷ b ∷ c ∷ d ∷ more) e = cc

head_found : is_head device_head ≡ true
unfolding three_of
head_found = refl

pub text_says : (text : List ℕ) (cs : List DeviceChange) → device_changes_of text ≡ Some cs → IsDeviceCsv text cs
text_says text cs e = on_records (records default_config (strip_bom text)) refl e
  where
    on_valid : (b : Bool) (found : List DeviceChange) (rows : List (List (List ℕ))) → records default_config (strip_bom text) ≡ device_head ∷ rows → changes_of rows ≡ Some found
        → are_valid_changes found ≡ b → (if b then Some found else None) ≡ Some cs → IsDeviceCsv text cs
    on_valid false found rows f g t e = cc
    on_valid true found rows f g t e =
        let same : found ≡ cs = cc in
        let valid = (Decides-are_valid_changes found).0 t in
        rw (← same) (record { rows = rows; table = f; each = changes_say rows found g; some = valid.some; few = valid.few; distinct = valid.distinct })

    on_changes : (found : Option (List DeviceChange)) (rows : List (List (List ℕ))) → records default_config (strip_bom text) ≡ device_head ∷ rows → changes_of rows ≡ found
        → option_and_then if_valid found ≡ Some cs → IsDeviceCsv text cs
    on_changes None rows f g e = cc
    on_changes (Some found) rows f g e = on_valid (are_valid_changes found) found rows f g refl e

    on_head : (b : Bool) (head : List (List ℕ)) (rows : List (List (List ℕ))) → records default_config (strip_bom text) ≡ head ∷ rows → is_head head ≡ b
        → (if b then option_and_then if_valid (changes_of rows) else None) ≡ Some cs → IsDeviceCsv text cs
    on_head false head rows f t e = cc
    on_head true head rows f t e = on_changes (changes_of rows) rows (f ∙ ap (λ h. h ∷ rows) (head_says head t)) refl e

    on_records : (all : List (List (List ℕ))) → records default_config (strip_bom text) ≡ all → changes_under_head all ≡ Some cs → IsDeviceCsv text cs
    on_records [] f e = cc
    on_records (head ∷ rows) f e = on_head (is_head head) head rows f refl e

pub text_found : (text : List ℕ) (cs : List DeviceChange) → IsDeviceCsv text cs → device_changes_of text ≡ Some cs
text_found text cs is =
    let valid : are_valid_changes cs ≡ true = (Decides-are_valid_changes cs).1 (record { some = is.some; few = is.few; distinct = is.distinct }) in
    rw (is.table, head_found, changes_found is.rows cs is.each, valid) refl
