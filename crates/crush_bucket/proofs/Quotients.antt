-- Quotients of delays and weights, compared by products.
use Rattle.std.proofs.Common.{◌≡◌, ℕ, ◌+◌, ◌*◌, ◌/◌, ◌<◌, ◌≤◌, ◌^◌, ◌==◌, nat_lt, true, false, refl, ap, sym, ◌∙◌, arith, ◌⊎◌, inl, inr}
use Rattle.std.proofs.lemmas.Bool.Decides.{nat_tests}
use Rattle.std.proofs.lemmas.Nat.{le-div}
use Rattle.std.proofs.Math.Nat.{div-le_self, div-mul-le_self, mul-le-mul_right, mul_assoc, mul_comm, add-mul, le_of_mul-le-mul_right}
use Rattle.crush_ln.specs.Log.{delay}
use Rattle.crush_bucket.specs.Kinds.{never, time_of}
use Rattle.crush_bucket.specs.Private.Soonest.{quotient}

pub quotient_none : (d w : ℕ) → w ≡ 0 → quotient d w ≡ never
unfolding quotient
quotient_none d w e = rw e refl

pub quotient_some : (d w : ℕ) → 0 < w → quotient d w ≡ d / w
unfolding quotient
quotient_some d w some = let t : (w == 0) ≡ false = grind (arith, nat_tests) in rw t refl

pub quotient_small : (d w : ℕ) → d ≤ 2 ^ 48 → quotient d w ≤ never
quotient_small d w low =
    let split : (w ≡ 0) ⊎ (0 < w) = grind arith in
    elim split [
      | inl none ↦ omega (arith, quotient_none d w none)
      | inr some ↦ omega (arith, quotient_some d w some, div-le_self d w, low)
    ]

not_less : (a b : ℕ) → b ≤ a → nat_lt a b ≡ false
not_less a b le = grind (arith, nat_tests)

less : (a b : ℕ) → a < b → nat_lt a b ≡ true
less a b lt = grind (arith, nat_tests)

-- a * b * c, of which two are exchanged
exchanged : (a b c : ℕ) → a * b * c ≡ a * c * b
exchanged a b c = mul_assoc a b c ∙ (ap (λ (n : ℕ). a * n) (mul_comm b c) ∙ sym (mul_assoc a c b))

-- an item without weight
pub none_not_less : (d w e v : ℕ) → e ≤ 2 ^ 48 → w ≡ 0 → nat_lt (quotient d w) (quotient e v) ≡ false
none_not_less d w e v low none = let small = quotient_small e v low in rw (quotient_none d w none) (not_less never (quotient e v) small)

-- against one without weight
pub less_than_none : (d w e v : ℕ) → d ≤ 2 ^ 48 → 0 < w → v ≡ 0 → nat_lt (quotient d w) (quotient e v) ≡ true
less_than_none d w e v low some none = rw (quotient_none e v none, quotient_some d w some) (less (d / w) never (omega (arith, div-le_self d w, low)))

-- the greater fraction has no lower quotient
pub above_not_less : (d w e v : ℕ) → 0 < w → 0 < v → e * w ≤ d * v → nat_lt (quotient d w) (quotient e v) ≡ false
above_not_less d w e v some other more =
    let q = e / v in
    let a : q * v ≤ e = div-mul-le_self e v in
    let b : q * v * w ≤ e * w = mul-le-mul_right w a in
    let c : q * w * v ≤ d * v = omega (arith, b, more, exchanged q v w) in
    let le : q * w ≤ d = le_of_mul-le-mul_right c other in
    rw (quotient_some d w some, quotient_some e v other) (not_less (d / w) q (le-div q d w some le))

-- a fraction that is less by 1 or more has a lower quotient
pub far_below_less : (d w e v : ℕ) → 0 < w → 0 < v → d * v + w * v ≤ e * w → nat_lt (quotient d w) (quotient e v) ≡ true
far_below_less d w e v some other gap =
    let q = d / w in
    let a : q * w ≤ d = div-mul-le_self d w in
    let b : (q + 1) * w ≤ d + w = omega (arith, a, add-mul q 1 w) in
    let c : (q + 1) * w * v ≤ (d + w) * v = mul-le-mul_right v b in
    let s : (d + w) * v ≡ d * v + w * v = add-mul d w v in
    let m : (q + 1) * v * w ≤ e * w = omega (arith, c, s, gap, exchanged (q + 1) w v) in
    let le : (q + 1) * v ≤ e = le_of_mul-le-mul_right m some in
    let up : q + 1 ≤ e / v = le-div (q + 1) e v other le in
    rw (quotient_some d w some, quotient_some e v other) (less q (e / v) (omega (arith, up)))

pub by_division : (d w e v : ℕ) → 0 < w → 0 < v → nat_lt (quotient d w) (quotient e v) ≡ nat_lt (d / w) (e / v)
by_division d w e v some other = rw (quotient_some d w some, quotient_some e v other) refl

pub time_is : (draw weight : ℕ) → time_of draw weight ≡ quotient (delay draw) weight
unfolding time_of quotient
time_is draw weight = refl

pub is_less : (a b : ℕ) → nat_lt a b ≡ true → a < b
is_less a b h = grind (arith, nat_tests)

pub is_not_less : (a b : ℕ) → nat_lt a b ≡ false → b ≤ a
is_not_less a b h = grind (arith, nat_tests)
