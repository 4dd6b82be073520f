-- Texts of records, one record after the other. No field here calls for quotes, so each is written
-- as it stands.
use Rattle.std.proofs.Common.{◌≡◌, ◌<◌, ◌≤◌, ◌+◌, ◌/◌, ◌%◌, ◌==◌, ◌++◌, ◌∷◌, [], ℕ, ℤ, pos, negsuc, zero, suc, Bool, true, false, if◌then◌else◌, Some, None, List, length, get_or, take, map, flat_map, codes, refl, sym, ap, ◌∙◌, append_assoc, arith, nat_lt}
use Rattle.std.specs.Fmt.{decimal, digit_glyph, digits, digits_onto, signed_decimal}
use Rattle.std.proofs.lemmas.Bool.Decides.{nat_tests}
use Rattle.std.proofs.lemmas.List.{append-nil, map-append, take_more}
use Rattle.std.proofs.lemmas.List.Folds.{list_any-append}
use Rattle.std.proofs.lemmas.Grind.{flat_map-append}
use Rattle.csv.specs.Writing.{default_writer, fields_text, is_blank, needs_byte, needs_quotes, row_text}
use Rattle.crush_choose.specs.Marks.{Slot}
use Rattle.crush_report.specs.Csv.{list_text, move_fields, move_head, records_text, slot_text, usage_fields, usage_head}
use Rattle.crush_report.specs.declared.rows.MoveRow.{MoveRow}
use Rattle.crush_report.specs.declared.rows.UsageRow.{UsageRow}

-- ---- fields without quotes

abbrev IsPlain : List ℕ → Type 0
IsPlain field = needs_quotes default_writer field ≡ false

abbrev ArePlain : List (List ℕ) → Type 0
ArePlain [] = Unit {0}
ArePlain (field ∷ fields) = IsPlain field × ArePlain fields

-- the bytes from `0` on need none
byte_plain : (b : ℕ) → 48 ≤ b → needs_byte default_writer b ≡ false
byte_plain b least = grind (arith, nat_tests, least)

both_plain : (a b : List ℕ) → IsPlain a → IsPlain b → IsPlain (a ++ b)
both_plain a b first second = rw (list_any-append (needs_byte default_writer) a b, first, second) refl

glyph_plain : (d : ℕ) → needs_byte default_writer (digit_glyph false d) ≡ false
glyph_plain d = by (nat_lt d 10)
  where
    by : (small : Bool) → needs_byte default_writer (if small then 48 + d else 87 + d) ≡ false
    by true = byte_plain (48 + d) (omega arith)
    by false = byte_plain (87 + d) (omega arith)

digits_plain : (k n : ℕ) (after : List ℕ) → IsPlain after → IsPlain (digits_onto k 10 false n after)
digits_plain zero n after plain = plain
digits_plain (suc k) n after plain = by (n / 10 == 0) (digits_plain k (n / 10) (digit_glyph false (n % 10) ∷ after) more)
  where
    more : IsPlain (digit_glyph false (n % 10) ∷ after)
    more = rw (glyph_plain (n % 10)) plain

    by : (last : Bool) → IsPlain (digits_onto k 10 false (n / 10) (digit_glyph false (n % 10) ∷ after))
        → IsPlain (if last then digit_glyph false (n % 10) ∷ after else digits_onto k 10 false (n / 10) (digit_glyph false (n % 10) ∷ after))
    by true rest = more
    by false rest = rest

decimal_plain : (n : ℕ) → IsPlain (decimal n)
unfolding digits
decimal_plain n = digits_plain 64 n [] refl

signed_plain : (z : ℤ) → IsPlain (signed_decimal z)
signed_plain (pos n) = decimal_plain n
signed_plain (negsuc n) = decimal_plain (suc n)

slot_plain : (slot : Slot) → IsPlain (slot_text slot)
slot_plain None = refl
slot_plain (Some item) = signed_plain item.0

others_plain : (slots : List Slot) → IsPlain (flat_map (λ slot. codes " " ++ slot_text slot) slots)
others_plain [] = refl
others_plain (slot ∷ slots) = both_plain (slot_text slot) (flat_map (λ slot. codes " " ++ slot_text slot) slots) (slot_plain slot) (others_plain slots)

list_plain : (slots : List Slot) → IsPlain (list_text slots)
list_plain [] = refl
list_plain (slot ∷ slots) = both_plain (slot_text slot) (flat_map (λ slot. codes " " ++ slot_text slot) slots) (slot_plain slot) (others_plain slots)

-- ---- lines

-- the fields of a line, with a comma between two
line : List ℕ → List (List ℕ) → List ℕ
line field [] = field ++ 10 ∷ []
line field (next ∷ others) = field ++ 44 ∷ line next others

fields_line : (field : List ℕ) (others : List (List ℕ)) → ArePlain others → (field ++ fields_text default_writer others) ++ 10 ∷ [] ≡ line field others
unfolding fields_text line
fields_line field [] plain = ap (λ (text : List ℕ). text ++ 10 ∷ []) (append-nil field)
fields_line field (next ∷ others) plain =
    let own : IsPlain next = plain.0 in
    let rest = fields_line next others plain.1 in
    append_assoc field (fields_text default_writer (next ∷ others)) (10 ∷ [])
    ∙ rw own (ap (λ (text : List ℕ). field ++ 44 ∷ text) rest)

-- a record of two fields and more that need no quotes is their line
plain_line : (field next : List ℕ) (others : List (List ℕ)) → IsPlain field → IsPlain next → ArePlain others → row_text default_writer (field ∷ next ∷ others) ≡ line field (next ∷ others)
unfolding is_blank
plain_line field next others first second rest =
    rw first (fields_line field (next ∷ others) (second, rest))

-- the line of a device
pub usage_line : (r : UsageRow) → row_text default_writer (usage_fields r)
    ≡ decimal r.device ++ 44 ∷ (decimal r.groups ++ 44 ∷ (decimal r.entries ++ 44 ∷ (decimal r.primaries ++ 44 ∷ (decimal r.permille ++ 10 ∷ []))))
unfolding line
usage_line r =
    plain_line (decimal r.device) (decimal r.groups) (decimal r.entries ∷ decimal r.primaries ∷ decimal r.permille ∷ []) (decimal_plain r.device) (decimal_plain r.groups)
    (decimal_plain r.entries, (decimal_plain r.primaries, (decimal_plain r.permille, tt)))

-- the line of a group
pub move_line : (r : MoveRow) → row_text default_writer (move_fields r)
    ≡ decimal r.group ++ 44 ∷ (decimal r.gained ++ 44 ∷ (list_text r.old ++ 44 ∷ (list_text r.new ++ 10 ∷ [])))
unfolding line
move_line r =
    plain_line (decimal r.group) (decimal r.gained) (list_text r.old ∷ list_text r.new ∷ []) (decimal_plain r.group) (decimal_plain r.gained)
    (list_plain r.old, (list_plain r.new, tt))

-- ---- lines that are written field by field

-- what is written after a field
then_rest : (out field : List ℕ) (after : ℕ) (rest : List ℕ) → (out ++ (field ++ after ∷ [])) ++ rest ≡ out ++ (field ++ after ∷ rest)
then_rest out field after rest = append_assoc out (field ++ after ∷ []) rest ∙ ap (λ (text : List ℕ). out ++ text) (append_assoc field (after ∷ []) rest)

four : (out a b c d : List ℕ)
    → (((out ++ (a ++ 44 ∷ [])) ++ (b ++ 44 ∷ [])) ++ (c ++ 44 ∷ [])) ++ (d ++ 10 ∷ []) ≡ out ++ (a ++ 44 ∷ (b ++ 44 ∷ (c ++ 44 ∷ (d ++ 10 ∷ []))))
four out a b c d =
    then_rest ((out ++ (a ++ 44 ∷ [])) ++ (b ++ 44 ∷ [])) c 44 (d ++ 10 ∷ [])
    ∙ then_rest (out ++ (a ++ 44 ∷ [])) b 44 (c ++ 44 ∷ (d ++ 10 ∷ []))
    ∙ then_rest out a 44 (b ++ 44 ∷ (c ++ 44 ∷ (d ++ 10 ∷ [])))

pub usage_written : (out : List ℕ) (r : UsageRow)
    → ((((out ++ (decimal r.device ++ 44 ∷ [])) ++ (decimal r.groups ++ 44 ∷ [])) ++ (decimal r.entries ++ 44 ∷ [])) ++ (decimal r.primaries ++ 44 ∷ [])) ++ (decimal r.permille ++ 10 ∷ [])
    ≡ out ++ row_text default_writer (usage_fields r)
usage_written out r =
    four (out ++ (decimal r.device ++ 44 ∷ [])) (decimal r.groups) (decimal r.entries) (decimal r.primaries) (decimal r.permille)
    ∙ then_rest out (decimal r.device) 44 (decimal r.groups ++ 44 ∷ (decimal r.entries ++ 44 ∷ (decimal r.primaries ++ 44 ∷ (decimal r.permille ++ 10 ∷ []))))
    ∙ ap (λ (text : List ℕ). out ++ text) (sym (usage_line r))

pub move_written : (out : List ℕ) (r : MoveRow)
    → (((((out ++ (decimal r.group ++ 44 ∷ [])) ++ (decimal r.gained ++ 44 ∷ [])) ++ list_text r.old) ++ (44 ∷ [])) ++ list_text r.new) ++ 10 ∷ []
    ≡ out ++ row_text default_writer (move_fields r)
move_written out r =
    append_assoc ((((out ++ (decimal r.group ++ 44 ∷ [])) ++ (decimal r.gained ++ 44 ∷ [])) ++ list_text r.old) ++ (44 ∷ [])) (list_text r.new) (10 ∷ [])
    ∙ append_assoc (((out ++ (decimal r.group ++ 44 ∷ [])) ++ (decimal r.gained ++ 44 ∷ [])) ++ list_text r.old) (44 ∷ []) (list_text r.new ++ 10 ∷ [])
    ∙ append_assoc ((out ++ (decimal r.group ++ 44 ∷ [])) ++ (decimal r.gained ++ 44 ∷ [])) (list_text r.old) (44 ∷ (list_text r.new ++ 10 ∷ []))
    ∙ then_rest (out ++ (decimal r.group ++ 44 ∷ [])) (decimal r.gained) 44 (list_text r.old ++ 44 ∷ (list_text r.new ++ 10 ∷ []))
    ∙ then_rest out (decimal r.group) 44 (decimal r.gained ++ 44 ∷ (list_text r.old ++ 44 ∷ (list_text r.new ++ 10 ∷ [])))
    ∙ ap (λ (text : List ℕ). out ++ text) (sym (move_line r))

-- ---- tables

-- the names of the columns alone
pub usage_head_line : codes "device,groups,entries,primaries,permille\n" ≡ records_text (usage_head ∷ [])
unfolding fields_text is_blank
usage_head_line = refl

pub move_head_line : codes "group,gained,old,new\n" ≡ records_text (move_head ∷ [])
unfolding fields_text is_blank
move_head_line = refl

-- the text of a head and of rows, with one more row
pub one_more : {X : Type 0} (fields : X → List (List ℕ)) (head : List (List ℕ)) (rows : List X) (i : ℕ) (d : X) → i < length rows
    → records_text (head ∷ map fields (take i rows)) ++ row_text default_writer (fields (get_or rows i d)) ≡ records_text (head ∷ map fields (take (i + 1) rows))
one_more fields head rows i d h =
    rw (take_more rows i d h, map-append fields (take i rows) (get_or rows i d ∷ []), flat_map-append (row_text default_writer) (map fields (take i rows)) (fields (get_or rows i d) ∷ []), append-nil (row_text default_writer (fields (get_or rows i d))))
    (append_assoc (row_text default_writer head) _ _)
