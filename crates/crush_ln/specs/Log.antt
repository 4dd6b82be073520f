-- Ceph's logarithm in fixed point (`crush_ln` of its `src/crush/mapper.c`) by its tables
-- (`src/crush/crush_ln_table.h`), which stand in src/tables.rt.
use Rattle.std.specs.Prelude.{ℕ, zero, suc, ◌+◌, ◌-◌, ◌*◌, ◌/◌, ◌%◌, ◌^◌, nat_le, if◌then◌else◌, slice_index}
use Rattle.crush_ln.specs.declared.tables.TheConstants.{RECIPROCALS, LOGS, REST_LOGS}

-- a number, doubled until it is at least 2^15, and the exponent, one less each time; it ends at 0
unfoldable pub scaled : ℕ → ℕ → ℕ × ℕ
scaled zero x = (0, x)
scaled (suc e) x = if nat_le (2 ^ 15) x then (suc e, x) else scaled e (2 * x)

-- 2^44 * log2(m / 2^15), about, for m from 2^15 to 2^16: that of the 128th part at or below m, and
-- that of the rest
unfoldable pub mantissa_log : ℕ → ℕ
mantissa_log m =
    let k = m / 2 ^ 8 - 128 in
    let rest = m * slice_index RECIPROCALS k / 2 ^ 48 % 2 ^ 8 in
    (slice_index LOGS k + slice_index REST_LOGS rest) / 2 ^ 4

-- 2^44 * log2(u + 1), about, for a draw u below 2^16
unfoldable pub log : ℕ → ℕ
log u = let (e, m) = scaled 15 (u + 1) in e * 2 ^ 44 + mantissa_log m

-- how far the logarithm of a draw lies below that of 2^16
unfoldable pub delay : ℕ → ℕ
delay u = 2 ^ 48 - log u
