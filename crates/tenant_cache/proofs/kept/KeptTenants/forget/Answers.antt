use Rattle.std.proofs.Common.{◌≡◌, ◌≢◌, Some, subst, inr}
use native.Mathlib.Omega.{arith}
use Rattle.tenant_state.specs.Size.{size}
use Rattle.tenant_cache.specs.Kept.{kept_at}
use Rattle.tenant_cache.proofs.LengthFacts.{length_popped}
use Rattle.tenant_cache.proofs.NameFacts.{seen_popped}
use Rattle.tenant_cache.proofs.SizeFacts.{popped_read}
use Rattle.tenant_cache.proofs.kept.KeptTenants.forget.Goals as goal

pub overflow_sub-self : goal.overflow_sub-self
overflow_sub-self g c = (popped_read (λ r. size r.value.inventory) _ c.self.inside.by_name c.pop_entry.new.self c.pop_entry.result c.self.inside.bytes c.size_of.result c.pop_entry.ensures.value c.pop_entry.ensures.entries
    c.self.invariant.bytes (omega (arith, c.self.invariant.small)) c.size_of.ensures).0

pub invariant_of-self : goal.invariant_of-self
invariant_of-self g c =
    let left = popped_read (λ r. size r.value.inventory) _ c.self.inside.by_name c.pop_entry.new.self c.pop_entry.result c.self.inside.bytes c.size_of.result c.pop_entry.ensures.value c.pop_entry.ensures.entries
    c.self.invariant.bytes (omega (arith, c.self.invariant.small)) c.size_of.ensures in
    let fewer = length_popped c.self.inside.by_name c.pop_entry.new.self _ c.pop_entry.ensures.entries in
    record { bytes = left.1; is_bounded = λ more. omega (arith, c.self.invariant.is_bounded (omega (arith, more, fewer))); small = omega (arith, c.self.invariant.small) }

pub returns : goal.returns
returns g c u i found = inr (subst (λ k. (u ≢ c.args.name.now) × (kept_at k u ≡ Some i)) c.self.view_is
    (seen_popped (λ r. r.value) c.self.inside.by_name c.pop_entry.new.self c.args.name.now c.len-count.ensures.valid.0 c.pop_entry.ensures.entries u i found))
