-- A list's text, item by item.
use Rattle.std.proofs.Common.{◌≡◌, ℕ, List, ◌++◌, length, map, Bool, true, refl, ap, ◌∙◌}
use Rattle.std.specs.Fmt.{decimal}
use Rattle.std.specs.Prelude.{codes}
use Rattle.std.proofs.lemmas.List.{append_assoc}
use Rattle.serde_json.specs.Data.{Data, Items, item}
use Rattle.serde_json.specs.Written.{comma_if, compact_text, items_text}
use Rattle.json.specs.Print.{escape_byte}
use Rattle.crush_report.specs.Moves.{gained_in}
use Rattle.crush_report.specs.declared.rows.MoveRow.{MoveRow}
use Rattle.tenant_messages.specs.Slots.{slot_json, list_json}
use Rattle.tenant_reports.specs.Moves.{moves_reply, row_json}
use Rattle.tenant_reports.specs.Private.Pieces.{head_text}
use Rattle.tenant_state.specs.State.{Inventory}

pub row_more : (old : List ℕ) (later : Bool) (d : Data) (ds : Items) → (old ++ (comma_if later ++ compact_text d)) ++ items_text true ds ≡ old ++ items_text later (item d ds)
row_more old later d ds =
    append_assoc old (comma_if later ++ compact_text d) (items_text true ds)
    ∙ ap (λ (rest : List ℕ). old ++ rest) (append_assoc (comma_if later) (compact_text d) (items_text true ds))

-- the pieces that are added to the end, one by one, are the rest
behind : (old a b c d : List ℕ) → old ++ a ++ b ++ c ++ d ≡ old ++ (a ++ (b ++ (c ++ d)))
behind old a b c d = append_assoc (old ++ a ++ b) c d ∙ append_assoc (old ++ a) b (c ++ d) ∙ append_assoc old a (b ++ (c ++ d))

-- the pieces that are added to the end of a text are a row
pub row_by_pieces : (old : List ℕ) (row : MoveRow)
    → old ++ (codes "{\"gained\":" ++ decimal row.gained) ++ (codes ",\"group\":" ++ decimal row.group) ++ (codes ",\"new\":" ++ compact_text (list_json (map slot_json row.new)))
    ++ (codes ",\"old\":" ++ compact_text (list_json (map slot_json row.old))) ++ codes "}"
    ≡ old ++ compact_text (row_json row)
unfolding escape_byte
row_by_pieces old row =
    let gained = codes "{\"gained\":" ++ decimal row.gained in
    let group = codes ",\"group\":" ++ decimal row.group in
    let new = codes ",\"new\":" ++ compact_text (list_json (map slot_json row.new)) in
    let before = codes ",\"old\":" ++ compact_text (list_json (map slot_json row.old)) in
    append_assoc (old ++ gained ++ group ++ new) before (codes "}") ∙ behind old gained group new (before ++ codes "}")

-- ---- the body of a reply with moves

abbrev joined : ℕ → ℕ → ℕ → ℕ → ℕ → List ℕ → ℕ → List ℕ
joined epoch from gained moved id list to =
    codes "{\"epoch\":" ++ (decimal epoch ++ (codes ",\"from\":" ++ (decimal from ++ (codes ",\"gained\":" ++ (decimal gained ++ (codes ",\"moved\":" ++ (decimal moved
    ++ (codes ",\"pool\":" ++ (decimal id ++ (codes ",\"rows\":" ++ (list ++ (codes ",\"to\":" ++ (decimal to ++ codes "}")))))))))))))

five : (a b c d e rest : List ℕ) → (a ++ b ++ c ++ d ++ e) ++ rest ≡ a ++ (b ++ (c ++ (d ++ (e ++ rest))))
five a b c d e rest = append_assoc (a ++ b ++ c ++ d) e rest ∙ append_assoc (a ++ b ++ c) d (e ++ rest) ∙ append_assoc (a ++ b) c (d ++ (e ++ rest)) ∙ append_assoc a b (c ++ (d ++ (e ++ rest)))

two : (a b rest : List ℕ) → (a ++ b) ++ rest ≡ a ++ (b ++ rest)
two a b rest = append_assoc a b rest

pieces : (epoch from gained moved id to : ℕ) (list : List ℕ)
    → head_text epoch from gained moved id ++ codes ",\"rows\":" ++ list ++ (codes ",\"to\":" ++ decimal to) ++ codes "}" ≡ joined epoch from gained moved id list to
pieces epoch from gained moved id to list =
    let tail = codes ",\"rows\":" ++ (list ++ ((codes ",\"to\":" ++ decimal to) ++ codes "}")) in
    behind (head_text epoch from gained moved id) (codes ",\"rows\":") list (codes ",\"to\":" ++ decimal to) (codes "}")
    ∙ five (codes "{\"epoch\":" ++ decimal epoch) (codes ",\"from\":" ++ decimal from) (codes ",\"gained\":" ++ decimal gained) (codes ",\"moved\":" ++ decimal moved) (codes ",\"pool\":" ++ decimal id) tail
    ∙ refl

body_is : (inventory : Inventory) (id from to : ℕ) (rows : List MoveRow)
    → joined inventory.epoch from (gained_in rows) (length rows) id (compact_text (list_json (map row_json rows))) to ≡ compact_text (moves_reply inventory id from to rows)
unfolding escape_byte
body_is inventory id from to rows = refl

pub body_by_pieces : (inventory : Inventory) (id from to : ℕ) (rows : List MoveRow)
    → head_text inventory.epoch from (gained_in rows) (length rows) id ++ codes ",\"rows\":" ++ compact_text (list_json (map row_json rows)) ++ (codes ",\"to\":" ++ decimal to) ++ codes "}"
    ≡ compact_text (moves_reply inventory id from to rows)
body_by_pieces inventory id from to rows =
    pieces inventory.epoch from (gained_in rows) (length rows) id to (compact_text (list_json (map row_json rows))) ∙ body_is inventory id from to rows
