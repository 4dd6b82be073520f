-- A hash is a word, whatever is hashed.
use Rattle.std.proofs.Common.{ℕ, ◌/◌, ◌<◌, ◌≤◌, ◌^◌, List, [], ◌∷◌, fold, bit_xor, arith}
use Rattle.std.proofs.lemmas.Nat.{xor_lt}
use Rattle.std.proofs.Math.Nat.{div-le_self}
use Rattle.crush_hash.specs.Hash.{Words, minus, down, up, mix, seed, stirred, hash4, A, B, C, D, X, Y}

down_small : (bits x y z : ℕ) → z < 2 ^ 32 → down bits x y z < 2 ^ 32
unfolding down
down_small bits x y z small =
    let less : z / 2 ^ bits ≤ z = div-le_self z (2 ^ bits) in
    let short : minus (minus x y) z < 2 ^ 32 = omega arith in
    xor_lt 32 (minus (minus x y) z) (z / 2 ^ bits) short (omega arith)

up_small : (bits x y z : ℕ) → up bits x y z < 2 ^ 32
unfolding up
up_small bits x y z =
    let short : minus (minus x y) z < 2 ^ 32 = omega arith in
    xor_lt 32 (minus (minus x y) z) _ short (omega arith)

mix_small : (words : Words) → (mix words).2 < 2 ^ 32
unfolding mix
mix_small words = down_small 15 _ _ _ (up_small 10 _ _ _)

-- the hash after some words were stirred
stirred_small : (state : List ℕ × ℕ) (pair : ℕ × ℕ) (pairs : List (ℕ × ℕ)) → (fold stirred state (pair ∷ pairs)).1 < 2 ^ 32
stirred_small state pair [] = mix_small _
stirred_small state pair (next ∷ pairs) = stirred_small (stirred state pair) next pairs

pub hash4_small : (a b c d : ℕ) → hash4 a b c d < 2 ^ 32
unfolding hash4
hash4_small a b c d =
    let words = a ∷ b ∷ c ∷ d ∷ [] in
    stirred_small (231232 ∷ 1232 ∷ words, fold bit_xor seed words) (A, B) ((C, D) ∷ (A, X) ∷ (Y, B) ∷ (C, X) ∷ (Y, D) ∷ [])
