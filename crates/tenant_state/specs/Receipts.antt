-- Receipts: what an accepted change leaves, so that a request that is repeated acts once.
use Rattle.std.specs.Prelude.{ℕ, ◌&&◌, List, [], ◌∷◌, Bool, if◌then◌else◌, Option, Some, None}
use Rattle.std.specs.Cmp.Lexicographic.{slice_cmp}
use Rattle.std.specs.Ordering.{nat_cmp, match_ordering, is_lt}
use Rattle.std.specs.Str.{bytes_eq}
use Rattle.tenant_state.specs.declared.receipts.Receipt.{Receipt}

-- receipts by request number, in the order of the numbers' bytes
abbrev pub Receipts : Type 0
Receipts = List (List ℕ × Receipt)

-- the receipt of a request number
abbrev pub receipt_of : List ℕ → Receipts → Option Receipt
receipt_of number [] = None
receipt_of number (r ∷ rs) = if bytes_eq number r.0 then Some r.1 else receipt_of number rs

-- the receipts with one more, at its place in the order
abbrev pub with_receipt : List ℕ → Receipt → Receipts → Receipts
with_receipt number receipt [] = (number, receipt) ∷ []
with_receipt number receipt (r ∷ rs) =
    match_ordering (slice_cmp nat_cmp number r.0) ((number, receipt) ∷ r ∷ rs) ((r.0, receipt) ∷ rs) (r ∷ with_receipt number receipt rs)

-- whether a request is the one that left the receipt: the same path and the same body, to the byte
abbrev pub is_repeat : List ℕ → List ℕ → Receipt → Bool
is_repeat path body receipt = bytes_eq path receipt.path && bytes_eq body receipt.body

-- whether a request number comes before another, in the order of their bytes
abbrev pub is_before : List ℕ × Receipt → List ℕ × Receipt → Bool
is_before r s = is_lt (slice_cmp nat_cmp r.0 s.0)
