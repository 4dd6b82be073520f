use Rattle.std.proofs.Common.{◌≡◌, ℕ, ◌-◌, ◌*◌, ◌%◌, ◌^◌, ◌≤◌, arith, sym}
use Rattle.crush_ln.proofs.Doubled.{IsScaling, scaling}
use Rattle.crush_ln.proofs.scaled.Goals as goal

is : (c : goal.After-min-exponent) → IsScaling c.args.number c.min-exponent.result
is c = scaling c.args.number c.ilog2.result c.min-exponent.result c.ilog2.ensures.power_le c.ilog2.ensures.next_power_gt c.min-exponent.ensures c.requires.small

fits : (n : ℕ) → n ≤ 2 ^ 16 → n % 2 ^ 32 ≡ n
fits n small = omega arith

pub returns-clause-value : goal.returns-clause-value
returns-clause-value c =
    rw (fits (c.args.number * 2 ^ (15 - c.min-exponent.result)) (is c).high) (sym (is c).value)

pub returns-clause-low : goal.returns-clause-low
returns-clause-low c = rw (fits (c.args.number * 2 ^ (15 - c.min-exponent.result)) (is c).high) (is c).low

pub returns-clause-high : goal.returns-clause-high
returns-clause-high c = rw (fits (c.args.number * 2 ^ (15 - c.min-exponent.result)) (is c).high) (is c).high
