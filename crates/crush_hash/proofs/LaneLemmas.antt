-- Lanes of vectors of one size.
use Rattle.std.proofs.Common.{◌≡◌, ℕ, ◌<◌, List, length, slice_index, bit_xor, arith, ap, ap₂, sym, ◌∙◌}
use Rattle.std.specs.Prelude.{replicate}
use Rattle.std.specs.Simd.Lanes.{zip2}
use Rattle.std.proofs.lemmas.Simd.{get_or-zip2, length-zip2, length-replicate, get_or-replicate}
use Rattle.crush_hash.specs.Hash.{minus}

-- an operator works on each lane
pub lane_of : (f : ℕ → ℕ → ℕ) (size : ℕ) (x y : List ℕ) → length x ≡ size → length y ≡ size → (n : ℕ) → n < size → slice_index (zip2 f x y) n ≡ f (slice_index x n) (slice_index y n)
lane_of f size x y lx ly n h = get_or-zip2 f x y n 0 0 0 (omega arith) (omega arith)

sized : (f : ℕ → ℕ → ℕ) (size : ℕ) (x y : List ℕ) → length x ≡ size → length y ≡ size → length (zip2 f x y) ≡ size
sized f size x y lx ly = length-zip2 f x y (lx ∙ sym ly) ∙ lx

-- x - y - z, xor z shifted by `bits` bits, in each lane
pub line_of : (shift : ℕ → ℕ → ℕ) (bits size : ℕ) (x y z : List ℕ) → length x ≡ size → length y ≡ size → length z ≡ size → (n : ℕ) → n < size
    → slice_index (zip2 bit_xor (zip2 minus (zip2 minus x y) z) (zip2 shift z (replicate size bits))) n
    ≡ bit_xor (minus (minus (slice_index x n) (slice_index y n)) (slice_index z n)) (shift (slice_index z n) bits)
line_of shift bits size x y z lx ly lz n h =
    let xy = zip2 minus x y in
    let by = replicate size bits in
    let lxy = sized minus size x y lx ly in
    let lby : length by ≡ size = length-replicate size bits in
    lane_of bit_xor size (zip2 minus xy z) (zip2 shift z by) (sized minus size xy z lxy lz) (sized shift size z by lz lby) n h
    ∙ ap₂ bit_xor
    (lane_of minus size xy z lxy lz n h ∙ ap (λ v. minus v (slice_index z n)) (lane_of minus size x y lx ly n h))
    (lane_of shift size z by lz lby n h ∙ ap (λ v. shift (slice_index z n) v) (get_or-replicate size n bits 0 h))
