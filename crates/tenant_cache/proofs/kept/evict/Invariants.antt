use Rattle.std.proofs.Common.{◌≡◌, ◌≤◌, ◌<◌, ℕ, length, take}
use Rattle.tenant_cache.specs.Bytes.{bytes_in}
use Rattle.tenant_cache.proofs.kept.evict.Given as goal

-- the rest are the first entries, at least one, and one more would be over the bound
abbrev pub invariant-loop-rest : goal.invariant-loop-rest
invariant-loop-rest l = record {
  rest : l.rest ≡ bytes_in l.by_name.entries;
  first : l.by_name.entries ≡ take (length l.by_name.entries) l.initial.by_name.entries;
  one : 0 < length l.initial.by_name.entries → 0 < length l.by_name.entries;
  most : (n : ℕ) → length l.by_name.entries < n → n ≤ length l.initial.by_name.entries → l.bound < bytes_in (take n l.initial.by_name.entries);
}

abbrev pub decreases-loop-rest : goal.decreases-loop-rest
decreases-loop-rest l = length l.by_name.entries
