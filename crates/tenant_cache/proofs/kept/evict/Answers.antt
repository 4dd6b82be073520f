use Rattle.std.proofs.Common.{ap, length, ◌-◌}
use native.Mathlib.Omega.{arith}
use Rattle.tenant_state.specs.Size.{size}
use Rattle.std.proofs.lemmas.List.{length-take-le}
use Rattle.tenant_cache.proofs.SizeFacts.{evicted_read, fewer}
use Rattle.tenant_cache.proofs.kept.evict.Goals as goal

pub overflow_sub-rest : goal.overflow_sub-rest
overflow_sub-rest c = (evicted_read (λ r. size r.value.inventory) c.loop-rest.by_name c.pop_lru.new.self c.pop_lru.result c.loop-rest.rest c.size_of-rest.result c.pop_lru.ensures.value c.pop_lru.ensures.entries
    c.loop-rest.invariant.rest (omega (arith, c.loop-rest.auto.rest-fits)) c.size_of-rest.ensures).0

pub loop-rest-preserved-then-len-gt1 : goal.loop-rest-preserved-then-len-gt1
loop-rest-preserved-then-len-gt1 c =
    let left = evicted_read (λ r. size r.value.inventory) c.loop-rest.by_name c.pop_lru.new.self c.pop_lru.result c.loop-rest.rest c.size_of-rest.result c.pop_lru.ensures.value c.pop_lru.ensures.entries
    c.loop-rest.invariant.rest (omega (arith, c.loop-rest.auto.rest-fits)) c.size_of-rest.ensures in
    let one = fewer (λ r. size r.value.inventory) c.args.by_name.now.entries c.loop-rest.by_name.entries c.args.bound c.loop-rest.invariant.first c.loop-rest.invariant.most
    (omega (arith, c.loop-rest.invariant.rest, c.loop-rest-test.true)) in
    let entries = ap (λ m. m.entries) c.pop_lru.ensures.entries in
    record { rest = left.1; first = rw entries one.0; one = λ _. omega (arith, ap length entries, length-take-le (length c.loop-rest.by_name.entries - 1) c.loop-rest.by_name.entries (omega arith), c.len.ensures.len, c.if-len-gt1.true); most = rw entries one.1 }

pub loop-rest-preserved : goal.loop-rest-preserved
loop-rest-preserved c =
    let left = evicted_read (λ r. size r.value.inventory) c.loop-rest.by_name c.pop_lru.new.self c.pop_lru.result c.loop-rest.rest c.size_of-rest.result c.pop_lru.ensures.value c.pop_lru.ensures.entries
    c.loop-rest.invariant.rest (omega (arith, c.loop-rest.auto.rest-fits)) c.size_of-rest.ensures in
    let one = fewer (λ r. size r.value.inventory) c.args.by_name.now.entries c.loop-rest.by_name.entries c.args.bound c.loop-rest.invariant.first c.loop-rest.invariant.most
    (omega (arith, c.loop-rest.invariant.rest, c.loop-rest-test.true)) in
    let entries = ap (λ m. m.entries) c.pop_lru.ensures.entries in
    record { rest = left.1; first = rw entries one.0; one = λ _. omega (arith, ap length entries, length-take-le (length c.loop-rest.by_name.entries - 1) c.loop-rest.by_name.entries (omega arith), c.len.ensures.len, c.if-len-gt1.true); most = rw entries one.1 }
