use Rattle.std.proofs.Common.{◌≡◌, ◌⊎◌, ℕ, Contains}
use Rattle.tenant_cache.proofs.ready.ReadyTenant.with_number.Given as goal

-- each number so far is the new one, or was there
abbrev pub invariant-loop-id : goal.invariant-loop-id
invariant-loop-id l = (e : ℕ × ℕ) → Contains l.numbers.items e → (e ≡ (l.fn.pool, l.fn.number)) ⊎ Contains l.fn.self.numbers e
