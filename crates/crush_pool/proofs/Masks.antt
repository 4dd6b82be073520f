-- The least power of two that is at least a number.
use Rattle.std.proofs.Common.{◌≡◌, ℕ, zero, suc, ◌+◌, ◌-◌, ◌*◌, ◌/◌, ◌%◌, ◌<◌, ◌≤◌, ◌^◌, ◌⊎◌, Bool, true, false, nat_lt, refl, sym, ◌∙◌, inl, inr, ap, arith, bit_and}
use Rattle.std.specs.Int.{◌∣◌}
use Rattle.std.proofs.Math.Nat.{dvd-mul_left, mod-eq_of_lt, mod-mod_of_dvd, pow-succ'}
use Rattle.std.proofs.Math.Pow.{pow_mono}
use Rattle.std.proofs.lemmas.Nat.{and_mask, mod_below, pow-add, pow_pos}
use Rattle.std.proofs.lemmas.Bool.{cases_lt, ltb-true}
use Rattle.std.proofs.lemmas.Bool.Decides.{nat_tests}
use Rattle.crush_bucket.specs.Kinds.{height_of}
use Rattle.crush_pool.specs.Groups.{mask_of, stable_mod}

-- a k with 2^k at least b, below which no power is
pub height_is : (b k : ℕ) → b ≤ 2 ^ k → ((h : ℕ) → h < k → 2 ^ h < b) → b ≤ 2 ^ height_of b → ((h : ℕ) → h < height_of b → 2 ^ h < b) → k ≡ height_of b
height_is b k enough below most least =
    let either : (k < height_of b) ⊎ ((height_of b < k) ⊎ (k ≡ height_of b)) = grind arith in
    elim either [
      | inl less ↦ absurd (omega (arith, enough, least k less))
      | inr more ↦ elim more [
        | inl above ↦ absurd (omega (arith, most, below (height_of b) above))
        | inr same ↦ same
      ]
    ]

-- ---- the bits that the mask leaves

pub some_power : (k : ℕ) → 0 < 2 ^ k
some_power = pow_pos

pub kept_is : (x b : ℕ) → bit_and x (mask_of b) ≡ x % 2 ^ height_of b
kept_is x b = and_mask x (height_of b)

half_of : (k : ℕ) → (2 ^ suc k - 1) / 2 ≡ 2 ^ k - 1
half_of k = let twice = pow-succ' 2 k in let some = pow_pos k in omega (arith, twice, some)

less_by_half : (x b h : ℕ) → h ≡ height_of b → 0 < b → nat_lt (bit_and x (mask_of b)) b ≡ false → ((j : ℕ) → j < height_of b → 2 ^ j < b) → bit_and x (mask_of b / 2) < b
less_by_half x b zero is some over least =
    let kept : bit_and x (mask_of b) ≡ x % 2 ^ 0 = kept_is x b ∙ ap (λ (k : ℕ). x % 2 ^ k) (sym is) in
    let low = mod_below x (2 ^ 0) (pow_pos 0) in
    absurd (grind (arith, nat_tests, kept, low, over))
less_by_half x b (suc j) is some over least =
    let half : mask_of b / 2 ≡ 2 ^ j - 1 = ap (λ (k : ℕ). (2 ^ k - 1) / 2) (sym is) ∙ half_of j in
    let kept : bit_and x (mask_of b / 2) ≡ x % 2 ^ j = ap (λ (m : ℕ). bit_and x m) half ∙ and_mask x j in
    let low = mod_below x (2 ^ j) (pow_pos j) in
    let less = least j (omega (arith, is)) in
    rw kept (omega (arith, low, less))

by_test : (x b : ℕ) (t : Bool) → nat_lt (bit_and x (mask_of b)) b ≡ t → 0 < b → ((j : ℕ) → j < height_of b → 2 ^ j < b) → stable_mod x b (mask_of b) < b
by_test x b true e some least = rw e (ltb-true (bit_and x (mask_of b)) b e)
by_test x b false e some least = rw e (less_by_half x b (height_of b) refl some e least)

pub below_all : (x b : ℕ) → 0 < b → ((j : ℕ) → j < height_of b → 2 ^ j < b) → stable_mod x b (mask_of b) < b
below_all x b some least = by_test x b (nat_lt (bit_and x (mask_of b)) b) refl some least

-- where the bits that the mask leaves are below b, they are the group
pub kept_group : (x b : ℕ) → x % 2 ^ height_of b < b → stable_mod x b (mask_of b) ≡ x % 2 ^ height_of b
kept_group x b low =
    let kept = kept_is x b in
    let test : nat_lt (bit_and x (mask_of b)) b ≡ true = grind (arith, nat_tests, kept, low) in
    rw test kept

-- ---- more groups

-- a number below 2^h is the same in all lengths from h on
low_bits : (x h j : ℕ) → h ≤ j → x % 2 ^ j < 2 ^ h → x % 2 ^ h ≡ x % 2 ^ j
low_bits x h j longer low =
    let split : j ≡ j - h + h = omega (arith, longer) in
    let power : 2 ^ j ≡ 2 ^ (j - h) * 2 ^ h = ap (λ (k : ℕ). 2 ^ k) split ∙ pow-add 2 (j - h) h in
    let divides : 2 ^ h ∣ 2 ^ j = rw power (dvd-mul_left (2 ^ h) (2 ^ (j - h))) in
    sym (mod-mod_of_dvd (2 ^ h) x divides) ∙ mod-eq_of_lt low

-- where the lowest j bits are a number below b, and j isn't below the height, they are the group
group_is : (x b j : ℕ) → b ≤ 2 ^ height_of b → height_of b ≤ j → x % 2 ^ j < b → stable_mod x b (mask_of b) ≡ x % 2 ^ j
group_is x b j enough longer low =
    let same = low_bits x (height_of b) j longer (omega (arith, enough, low)) in
    kept_group x b (rw same low) ∙ same

-- where the lowest bits are not below b, the group has one bit less
group_is_half : (x b j : ℕ) → suc j ≡ height_of b → b ≤ x % 2 ^ suc j → stable_mod x b (mask_of b) ≡ x % 2 ^ j
group_is_half x b j is over =
    let kept : bit_and x (mask_of b) ≡ x % 2 ^ suc j = kept_is x b ∙ ap (λ (k : ℕ). x % 2 ^ k) (sym is) in
    let test : nat_lt (bit_and x (mask_of b)) b ≡ false = grind (arith, nat_tests, kept, over) in
    let half : mask_of b / 2 ≡ 2 ^ j - 1 = ap (λ (k : ℕ). (2 ^ k - 1) / 2) (sym is) ∙ half_of j in
    rw test (ap (λ (m : ℕ). bit_and x m) half ∙ and_mask x j)

abbrev Moves : ℕ → ℕ → ℕ → Type 0
Moves x b c = (stable_mod x c (mask_of c) ≡ stable_mod x b (mask_of b)) ⊎ (b ≤ stable_mod x c (mask_of c))

-- of a group of c that is below b, and that is the lowest bits of x
moves_from : (x b c j : ℕ) → stable_mod x c (mask_of c) ≡ x % 2 ^ j → (x % 2 ^ j < b → stable_mod x b (mask_of b) ≡ x % 2 ^ j) → Moves x b c
moves_from x b c j is same = elim (cases_lt (x % 2 ^ j) b) [
  | inl low ↦ inl (is ∙ sym (same low))
  | inr high ↦ inr (rw is high)
]

folded : (x b c h : ℕ) → h ≡ height_of c → 0 < b → b ≤ c → b ≤ 2 ^ height_of b → height_of b ≤ height_of c → c ≤ x % 2 ^ h → Moves x b c
folded x b c zero is some fewer enough lower over =
    let low = mod_below x (2 ^ 0) (pow_pos 0) in
    absurd (omega (arith, low, over, some, fewer))
folded x b c (suc j) is some fewer enough lower over =
    moves_from x b c j (group_is_half x c j is over) (λ low. elim (cases_lt j (height_of b)) [
      | inl above ↦ group_is_half x b j (omega (arith, above, lower, is)) (omega (arith, fewer, over))
      | inr within ↦ group_is x b j enough within low
    ])

lower_of : (b c : ℕ) → b ≤ c → c ≤ 2 ^ height_of c → ((h : ℕ) → h < height_of b → 2 ^ h < b) → height_of b ≤ height_of c
lower_of b c fewer enough least = elim (cases_lt (height_of c) (height_of b)) [
  | inl lower ↦ absurd (omega (arith, fewer, enough, least (height_of c) lower))
  | inr same ↦ same
]

pub moves : (x b c : ℕ) → 0 < b → b ≤ c → b ≤ 2 ^ height_of b → c ≤ 2 ^ height_of c → ((h : ℕ) → h < height_of b → 2 ^ h < b) → Moves x b c
moves x b c some fewer enough enough_c least =
    let lower = lower_of b c fewer enough_c least in
    elim (cases_lt (x % 2 ^ height_of c) c) [
      | inl low ↦ moves_from x b c (height_of c) (kept_group x c low) (group_is x b (height_of c) enough lower)
      | inr over ↦ folded x b c (height_of c) refl some fewer enough lower over
    ]
