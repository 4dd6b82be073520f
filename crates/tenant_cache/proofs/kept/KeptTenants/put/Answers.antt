use Rattle.std.proofs.Common.{◌≡◌, ◌≢◌, ◌⊎◌, Some, string_bytes, min, ◌-◌, ◌^◌, ap, subst, sym, ◌∙◌, true≢false}
use native.Mathlib.Omega.{arith}
use Rattle.std.specs.Option.{IsSome}
use Rattle.tenant_state.specs.Size.{size}
use Rattle.tenant_cache.specs.Kept.{kept_at}
use Rattle.std.specs.String.{string_eq}
use Rattle.tenant_cache.proofs.LengthFacts.{some_put}
use Rattle.tenant_cache.proofs.NameFacts.{at, at_taken, is_there, shown_first, shown_put}
use Rattle.tenant_cache.proofs.SizeFacts.{pushed_read}
use Rattle.tenant_cache.proofs.kept.KeptTenants.put.Goals as goal
use Rattle.tenant_cache.proofs.kept.KeptTenants.put.Goals.{in-Some-1, in-None-1}

pub overflow_sub-bytes : goal.overflow_sub-bytes
overflow_sub-bytes g c = (pushed_read (λ r. size r.value.inventory) string_eq c.self.inside.by_name c.push.new.self c.args.name c.args.ready c.in-Ok.displaced c.self.inside.bytes c.size-size.result c.size_of.result
    c.len-count.ensures.valid c.in-Ok.ensures.old c.in-Ok.ensures.entries c.self.invariant.bytes c.self.invariant.small
    (c.size-size.ensures ∙ ap (λ r. min (size r.inventory) (2 ^ 64 - 1)) c.deref.ensures) (omega (arith, c.if-size-gt-GREATEST_SIZE.false)) c.size_of.ensures).0

pub evict-self-inside-requires : goal.evict-self-inside-requires
evict-self-inside-requires g c = (pushed_read (λ r. size r.value.inventory) string_eq c.self.inside.by_name c.push.new.self c.args.name c.args.ready c.in-Ok.displaced c.self.inside.bytes c.size-size.result c.size_of.result
    c.len-count.ensures.valid c.in-Ok.ensures.old c.in-Ok.ensures.entries c.self.invariant.bytes c.self.invariant.small
    (c.size-size.ensures ∙ ap (λ r. min (size r.inventory) (2 ^ 64 - 1)) c.deref.ensures) (omega (arith, c.if-size-gt-GREATEST_SIZE.false)) c.size_of.ensures).1

pub returns-in-Ok-clause-only : goal.returns-in-Ok-clause-only
returns-in-Ok-clause-only g c u i found = subst (λ k. ((u ≡ string_bytes c.args.name) × (Some c.args.ready.value ≡ Some i)) ⊎ ((u ≢ string_bytes c.args.name) × (kept_at k u ≡ Some i))) c.self.view_is
    (shown_put (λ r. r.value) c.self.inside.by_name c.args.name c.args.ready c.evict-self-inside.new.by_name.entries c.len-count.ensures.valid.0
    (λ w v has. subst (λ m. at m.entries w ≡ Some v) c.in-Ok.ensures.entries (at_taken _ c.push.new.self.entries w v (subst (λ es. at es w ≡ Some v) c.evict-self-inside.ensures.first has))) u i
    (elim c.match-displaced.branch [
      | in-Some-1 w ↦ subst (λ m. kept_at m u ≡ Some i) w.self-is found
      | in-None-1 w ↦ subst (λ m. kept_at m u ≡ Some i) w.self-is found
    ]))

pub returns-in-Ok-clause-stays : goal.returns-in-Ok-clause-stays
returns-in-Ok-clause-stays g c there small =
    let some = c.evict-self-inside.ensures.one (some_put string_eq c.self.inside.by_name c.args.name c.args.ready c.push.new.self c.in-Ok.ensures.entries) in
    let stands = shown_first (λ r. r.value) c.self.inside.by_name c.push.new.self c.args.name c.args.ready c.evict-self-inside.new.by_name.entries c.in-Ok.ensures.entries c.evict-self-inside.ensures.first some in
    elim c.match-displaced.branch [
      | in-Some-1 w ↦ subst (λ m. kept_at m (string_bytes c.args.name) ≡ Some c.args.ready.value) (sym w.self-is) stands
      | in-None-1 w ↦ subst (λ m. kept_at m (string_bytes c.args.name) ≡ Some c.args.ready.value) (sym w.self-is) stands
    ]

pub returns-in-Err-clause-stays : goal.returns-in-Err-clause-stays
returns-in-Err-clause-stays g c there small =
    absurd (true≢false (sym (c.in-Err.ensures.succeeds (is_there (λ r. r.value) c.self.inside.by_name.entries (string_bytes c.args.name) (subst (λ m. IsSome (kept_at m (string_bytes c.args.name))) (sym c.self.view_is) there)))))
