-- The parts of the mantissas, 256 in each, from 2^15 on.
use Rattle.std.proofs.Common.{◌≡◌, ℕ, ◌+◌, ◌-◌, ◌*◌, ◌/◌, ◌^◌, ◌<◌, ◌≤◌, slice_index, arith}
use Rattle.std.proofs.Math.Nat.{mul-le-mul_right}
use Rattle.crush_ln.specs.declared.tables.TheConstants.{RECIPROCALS}
use Rattle.crush_ln.proofs.Table.{first_of, last_of, part_starts, part_ends}

pub product_below : (m k : ℕ) → 2 ^ 15 ≤ m → m ≤ 2 ^ 16 → k ≡ m / 2 ^ 8 - 128 → m * slice_index RECIPROCALS k < (2 ^ 15 + 2 ^ 8) * 2 ^ 48
product_below m k low high is =
    let few : k < 129 = omega arith in
    let le : m ≤ last_of k = omega arith in
    let less : m * slice_index RECIPROCALS k ≤ last_of k * slice_index RECIPROCALS k = mul-le-mul_right (slice_index RECIPROCALS k) le in
    omega (arith, less, part_ends k few)

pub product_above : (m k : ℕ) → 2 ^ 15 ≤ m → m ≤ 2 ^ 16 → k ≡ m / 2 ^ 8 - 128 → 2 ^ 15 * 2 ^ 48 ≤ m * slice_index RECIPROCALS k
product_above m k low high is =
    let few : k < 129 = omega arith in
    let le : first_of k ≤ m = omega arith in
    let more : first_of k * slice_index RECIPROCALS k ≤ m * slice_index RECIPROCALS k = mul-le-mul_right (slice_index RECIPROCALS k) le in
    omega (arith, more, part_starts k few)
