-- The text of a reply with usage, piece by piece.
use Rattle.std.proofs.Common.{◌≡◌, ℕ, List, ◌++◌, map, refl, ap, ◌∙◌}
use Rattle.std.specs.Fmt.{decimal}
use Rattle.std.specs.Prelude.{codes}
use Rattle.std.proofs.lemmas.List.{append_assoc}
use Rattle.serde_json.specs.Written.{compact_text}
use Rattle.json.specs.Print.{escape_byte}
use Rattle.crush_report.specs.declared.rows.UsageRow.{UsageRow}
use Rattle.tenant_messages.specs.Slots.{list_json}
use Rattle.tenant_reports.specs.Usage.{usage_reply, row_json}

-- the pieces that are added to the end, one by one, are the rest
behind : (old a b c d e f : List ℕ) → old ++ a ++ b ++ c ++ d ++ e ++ f ≡ old ++ (a ++ (b ++ (c ++ (d ++ (e ++ f)))))
behind old a b c d e f =
    append_assoc (old ++ a ++ b ++ c ++ d) e f
    ∙ append_assoc (old ++ a ++ b ++ c) d (e ++ f)
    ∙ append_assoc (old ++ a ++ b) c (d ++ (e ++ f))
    ∙ append_assoc (old ++ a) b (c ++ (d ++ (e ++ f)))
    ∙ append_assoc old a (b ++ (c ++ (d ++ (e ++ f))))

-- the pieces that are added to the end of a text are a row
pub row_by_pieces : (old : List ℕ) (row : UsageRow)
    → old ++ (codes "{\"device\":" ++ decimal row.device) ++ (codes ",\"entries\":" ++ decimal row.entries) ++ (codes ",\"groups\":" ++ decimal row.groups)
    ++ (codes ",\"permille\":" ++ decimal row.permille) ++ (codes ",\"primaries\":" ++ decimal row.primaries) ++ codes "}"
    ≡ old ++ compact_text (row_json row)
unfolding escape_byte
row_by_pieces old row =
    behind old (codes "{\"device\":" ++ decimal row.device) (codes ",\"entries\":" ++ decimal row.entries) (codes ",\"groups\":" ++ decimal row.groups)
    (codes ",\"permille\":" ++ decimal row.permille) (codes ",\"primaries\":" ++ decimal row.primaries) (codes "}")

-- the body of a reply
four : (a b c d e f : List ℕ) → a ++ b ++ c ++ d ++ e ++ f ≡ a ++ (b ++ (c ++ (d ++ (e ++ f))))
four a b c d e f =
    append_assoc (a ++ b ++ c ++ d) e f
    ∙ append_assoc (a ++ b ++ c) d (e ++ f)
    ∙ append_assoc (a ++ b) c (d ++ (e ++ f))
    ∙ append_assoc a b (c ++ (d ++ (e ++ f)))

pub body_by_pieces : (epoch version id : ℕ) (rows : List UsageRow)
    → (codes "{\"epoch\":" ++ decimal epoch) ++ (codes ",\"pool\":" ++ decimal id) ++ codes ",\"rows\":" ++ compact_text (list_json (map row_json rows))
    ++ (codes ",\"version\":" ++ decimal version) ++ codes "}"
    ≡ compact_text (usage_reply epoch version id rows)
unfolding escape_byte
body_by_pieces epoch version id rows =
    four (codes "{\"epoch\":" ++ decimal epoch) (codes ",\"pool\":" ++ decimal id) (codes ",\"rows\":") (compact_text (list_json (map row_json rows)))
    (codes ",\"version\":" ++ decimal version) (codes "}")
