use Rattle.std.proofs.Common.{◌≡◌, ℕ, ◌%◌, ◌^◌, ap, sym, ◌∙◌, arith}
use Rattle.std.proofs.Math.Nat.{mod-eq_of_lt}
use Rattle.std.proofs.Math.Pow.{pow-lt}
use Rattle.std.proofs.lemmas.Nat.{mod_below, pow_pos}
use Rattle.crush_bucket.specs.Kinds.{height_of}
use Rattle.crush_pool.proofs.Masks.{height_is, below_all, kept_group}
use Rattle.crush_pool.proofs.laws.numbers_fall_into_groups.Goals as goal

pub returns-clause-below : goal.returns-clause-below
returns-clause-below c = λ x b some. below_all x b some (c.height_is_least.ensures.least b)

pub returns-clause-own : goal.returns-clause-own
returns-clause-own c = λ group b less.
    let enough = c.height_is_least.ensures.enough b in
    let same : group % 2 ^ height_of b ≡ group = mod-eq_of_lt (omega (arith, less, enough)) in
    kept_group group b (rw same less) ∙ same

pub returns-clause-remainder : goal.returns-clause-remainder
returns-clause-remainder c = λ x k.
    let is : k ≡ height_of (2 ^ k) = height_is (2 ^ k) k (omega arith) (λ h less. pow-lt less) (c.height_is_least.ensures.enough (2 ^ k)) (c.height_is_least.ensures.least (2 ^ k)) in
    let rest : x % 2 ^ height_of (2 ^ k) ≡ x % 2 ^ k = ap (λ (h : ℕ). x % 2 ^ h) (sym is) in
    kept_group x (2 ^ k) (rw rest (mod_below x (2 ^ k) (pow_pos k))) ∙ rest
