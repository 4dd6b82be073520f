use Rattle.std.proofs.Common.{◌≡◌, ◌==◌, ◌∙◌, map, false, true, Some, None, find, position, sym, ap}
use Rattle.crush_pool.specs.Exceptions.{are_pairs}
use Rattle.tenant_state.proofs.Keeping.{same_shared}
use Rattle.tenant_state.proofs.Ordering.{found, not_found}
use Rattle.tenant_state.proofs.Pairing.{paired, with_own}
use Rattle.tenant_state.specs.State.{TenantPool, can_have, with_pairs}
use Rattle.tenant_state.proofs.pools.Pools.with_exceptions.Goals as goal
use Rattle.tenant_state.proofs.pools.Pools.with_exceptions.Goals.{in-Some+in_ok-pool+in_ok-pools-2, in_default}

pub with_exceptions-requires : goal.with_exceptions-requires
with_exceptions-requires c =
    let same = same_shared c.self.inside.pools.items c.in_ok-pools.pools.items c.in_ok-pools.ensures.cases.0 ∙ c.self.view_is in
    let asked : position (λ p. p.value.parts.id == c.args.id) c.in_ok-pools.pools.items ≡ c.place_with.result =
    sym (c.place_with.ensures ∙ (ap (λ l. position (λ p. p.value.parts.id == c.from.result) l) c.deref.ensures.value
    ∙ ap (λ n. position (λ p. p.value.parts.id == n) c.in_ok-pools.pools.items) c.from.ensures)) in
    let there : Some c.index.result.now.value ≡ find (λ p. p.parts.id == c.args.id) c.args.self.now =
    ap Some (ap (λ p. p.value) c.index.ensures)
    ∙ (found (λ p. p.value) (λ (p : TenantPool). p.parts.id == c.args.id) c.index.result.now c.in-Some.place c.in_ok-pools.pools.items (asked ∙ c.in-Some.is)
    ∙ ap (find (λ (p : TenantPool). p.parts.id == c.args.id)) same) in
    ap (λ (p : TenantPool). are_pairs p.parts.pg_num c.args.exceptions.now) c.deref-in-Some.ensures ∙ (ap (can_have c.args.exceptions.now) there ∙ c.requires)

pub returns : goal.returns
returns c =
    let same = same_shared c.self.inside.pools.items c.in_ok-pools.pools.items c.in_ok-pools.ensures.cases.0 ∙ c.self.view_is in
    let asked : position (λ p. p.value.parts.id == c.args.id) c.in_ok-pools.pools.items ≡ c.place_with.result =
    sym (c.place_with.ensures ∙ (ap (λ l. position (λ p. p.value.parts.id == c.from.result) l) c.deref.ensures.value
    ∙ ap (λ n. position (λ p. p.value.parts.id == n) c.in_ok-pools.pools.items) c.from.ensures)) in
    elim c.match-place_with.branch [
      | in-Some+in_ok-pool+in_ok-pools-2 w ↦
          let own = w.in_ok-pools-2.ensures.ok ∙ (w.in_ok-pool.ensures ∙ ap (with_own c.args.exceptions.now) (w.deref-in-Some.ensures ∙ ap (λ p. p.value) w.index.ensures)) in
          c.of.ensures ∙ (ap (λ v. map (λ p. p.value) v.items) w.pools-is
          ∙ (paired (λ p. p.value) c.args.id c.args.exceptions.now w.in_ok-pools-2.field-0 w.index.result.now w.in-Some.place c.in_ok-pools.pools.items (asked ∙ w.in-Some.is) own
          ∙ ap (with_pairs c.args.id c.args.exceptions.now) same))
      | in_default w ↦
          let gone : None ≡ find (λ p. p.parts.id == c.args.id) c.args.self.now =
          not_found (λ p. p.value) (λ (p : TenantPool). p.parts.id == c.args.id) c.in_ok-pools.pools.items (asked ∙ w.in_default.is)
          ∙ ap (find (λ (p : TenantPool). p.parts.id == c.args.id)) same in
          let no : false ≡ true = ap (can_have c.args.exceptions.now) gone ∙ c.requires in cc
    ]
