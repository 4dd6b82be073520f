-- rjenkins1, the hash of CRUSH, over words: numbers below 2^32 (Ceph's `src/crush/hash.c`), and the
-- hash of a name (`src/common/ceph_hash.cc`).
use Rattle.std.specs.Prelude.{ℕ, zero, suc, ◌+◌, ◌-◌, ◌*◌, ◌/◌, ◌%◌, ◌^◌, bit_xor, List, [], ◌∷◌, fold, length, slice_index, slice_set}

-- ---- mixing

-- three words
abbrev pub Words : Type 0
Words = ℕ × ℕ × ℕ

-- the sum of two words, which wraps
abbrev pub plus : ℕ → ℕ → ℕ
plus x y = (x + y) % 2 ^ 32

-- the difference of two words, which wraps
abbrev pub minus : ℕ → ℕ → ℕ
minus x y = (x + (2 ^ 32 - y)) % 2 ^ 32

-- x - y - z, xor z shifted right by `bits` bits
unfoldable pub down : ℕ → ℕ → ℕ → ℕ → ℕ
down bits x y z = bit_xor (minus (minus x y) z) (z / 2 ^ bits)

-- x - y - z, xor z shifted left by `bits` bits; what leaves the word is dropped
unfoldable pub up : ℕ → ℕ → ℕ → ℕ → ℕ
up bits x y z = bit_xor (minus (minus x y) z) ((z * 2 ^ bits) % 2 ^ 32)

-- the nine lines of `crush_hashmix`
unfoldable pub mix : Words → Words
mix (a, b, c) =
    let a = down 13 a b c in
    let b = up 8 b c a in
    let c = down 13 c a b in
    let a = down 12 a b c in
    let b = up 16 b c a in
    let c = down 5 c a b in
    let a = down 3 a b c in
    let b = up 10 b c a in
    let c = down 15 c a b in
    (a, b, c)

-- ---- the hashes of one to five words

-- what the hash is before a word comes to it (`crush_hash_seed`)
abbrev pub seed : ℕ
seed = 1315423911

-- places in the list 231232, 1232 and the words: x, y and a, b, .. of `hash.c`
abbrev pub X : ℕ
X = 0

abbrev pub Y : ℕ
Y = 1

abbrev pub A : ℕ
A = 2

abbrev pub B : ℕ
B = 3

abbrev pub C : ℕ
C = 4

abbrev pub D : ℕ
D = 5

abbrev pub E : ℕ
E = 6

-- the words and the hash after one `crush_hashmix` of the words at two places
abbrev pub stirred : List ℕ × ℕ → ℕ × ℕ → List ℕ × ℕ
stirred (words, hash) (i, j) =
    let mixed = mix (slice_index words i, slice_index words j, hash) in
    (slice_set (slice_set words i mixed.0) j mixed.1, mixed.2)

-- what a hash becomes, stirred at each of `pairs` of places in turn
abbrev pub hash_from : ℕ → List (ℕ × ℕ) → List ℕ → ℕ
hash_from hash pairs words = (fold stirred (231232 ∷ 1232 ∷ words, hash) pairs).1

-- the same from the seed, xor each word
abbrev pub hash_by : List (ℕ × ℕ) → List ℕ → ℕ
hash_by pairs words = hash_from (fold bit_xor seed words) pairs words

-- `crush_hash32_rjenkins1`; b begins as a copy of a, and the seed has a once
unfoldable pub hash1 : ℕ → ℕ
hash1 a = hash_from (bit_xor seed a) ((B, X) ∷ (Y, A) ∷ []) (a ∷ a ∷ [])

-- `crush_hash32_rjenkins1_2`
unfoldable pub hash2 : ℕ → ℕ → ℕ
hash2 a b = hash_by ((A, B) ∷ (X, A) ∷ (B, Y) ∷ []) (a ∷ b ∷ [])

-- `crush_hash32_rjenkins1_3`
unfoldable pub hash3 : ℕ → ℕ → ℕ → ℕ
hash3 a b c = hash_by ((A, B) ∷ (C, X) ∷ (Y, A) ∷ (B, X) ∷ (Y, C) ∷ []) (a ∷ b ∷ c ∷ [])

-- `crush_hash32_rjenkins1_4`
unfoldable pub hash4 : ℕ → ℕ → ℕ → ℕ → ℕ
hash4 a b c d = hash_by ((A, B) ∷ (C, D) ∷ (A, X) ∷ (Y, B) ∷ (C, X) ∷ (Y, D) ∷ []) (a ∷ b ∷ c ∷ d ∷ [])

-- `crush_hash32_rjenkins1_5`
unfoldable pub hash5 : ℕ → ℕ → ℕ → ℕ → ℕ → ℕ
hash5 a b c d e = hash_by ((A, B) ∷ (C, D) ∷ (E, X) ∷ (Y, A) ∷ (B, X) ∷ (Y, C) ∷ (D, X) ∷ (Y, E) ∷ []) (a ∷ b ∷ c ∷ d ∷ e ∷ [])

-- ---- vectors

-- the words in one lane of three vectors
abbrev pub lane : ℕ → List ℕ × List ℕ × List ℕ → Words
lane n (a, b, c) = (slice_index a n, slice_index b n, slice_index c n)

-- ---- the hash of a name

-- the four bytes from a place on as a word, the lowest first; past the end each is 0
unfoldable pub word_at : List ℕ → ℕ → ℕ
word_at name place =
    let byte = λ (k : ℕ). slice_index name (place + k) in
    (byte 0 + 2 ^ 8 * byte 1 + 2 ^ 16 * byte 2 + 2 ^ 24 * byte 3) % 2 ^ 32

-- three words, to each of which a word is added, mixed
unfoldable pub absorb : Words → Words → Words
absorb (a, b, c) (p, q, r) = mix (plus a p, plus b q, plus c r)

-- the three words of the 12 bytes from a place on
abbrev pub group : List ℕ → ℕ → Words
group name place = (word_at name place, word_at name (place + 4), word_at name (place + 8))

-- the three words of the bytes behind the last whole group, at most 11, and of the length: the
-- lowest byte of the last word is free for the length, which is added
unfoldable pub last_group : List ℕ → ℕ → Words
last_group name place =
    (word_at name place, word_at name (place + 4), plus (length name) (2 ^ 8 * word_at name (place + 8)))

-- the words after n groups of 12 bytes; before the first group two words are the golden ratio's
abbrev pub after_groups : List ℕ → ℕ → Words
after_groups name zero = (2654435769, 2654435769, 0)
after_groups name (suc n) = absorb (after_groups name n) (group name (12 * n))

-- `ceph_str_hash_rjenkins`
abbrev pub name_hash : List ℕ → ℕ
name_hash name =
    let groups = length name / 12 in
    (absorb (after_groups name groups) (last_group name (12 * groups))).2
