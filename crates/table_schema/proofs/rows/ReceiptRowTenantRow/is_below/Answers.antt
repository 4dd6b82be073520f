use Rattle.std.proofs.Common.{◌≡◌, string_bytes, is_lt, nat_cmp, sym, ap₂, ◌∙◌}
use Rattle.std.specs.Cmp.Lexicographic.{slice_cmp}
use Rattle.table_schema.proofs.Rising.{below_text, below_text_back}
use Rattle.table_schema.proofs.rows.ReceiptRowTenantRow.is_below.Goals as goal

pub returns : goal.returns
returns c =
    let s = string_bytes c.args.self.now.request in
    let t = string_bytes c.args.other.now.request in
    let is : c.lt.result ≡ is_lt (slice_cmp nat_cmp s t) = c.lt.ensures ∙ ap₂ (λ a b. is_lt (slice_cmp nat_cmp a b)) c.as_str.ensures.value c.as_str-2.ensures.value in
    (λ low. below_text s t (sym is ∙ low), λ less. is ∙ below_text_back s t less)
