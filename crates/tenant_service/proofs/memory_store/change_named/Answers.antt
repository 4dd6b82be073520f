use Rattle.std.proofs.Common.{◌≡◌, ◌∙◌, ℕ, List, rules, sym, subst, Some, true, if◌then◌else◌, arith}
use Rattle.std.specs.Str.{bytes_eq}
use Rattle.std.specs.BTreeMap.{get_by_text}
use Rattle.std.specs.declared.alloc.Global.{Global}
use Rattle.std.proofs.lemmas.Map.Text.{btree_map_updates_text}
use Rattle.std.proofs.lemmas.Slice.Eq.{bytes_eq-Decides}
use Rattle.tenant_core.specs.tenant_state.specs.State.{after}
use Rattle.tenant_service.proofs.Kept.{changed_at, kept_at, OnOk-map, OnErr-map}
use Rattle.tenant_service.proofs.KeptStates.{state_at}
use Rattle.tenant_service.proofs.memory_store.change_named.Goals as goal

-- the value under the name, of the states with another value in its place
updated : (c : goal.After-states-in-Some-1) (u : List ℕ) →
    get_by_text (c.get_mut.follows.lender c.change.new.self) u ≡ (if bytes_eq c.args.name.now u then Some c.change.new.self else get_by_text c.args.states.now u)
updated c u =
    btree_map_updates_text {Y = Global} c.args.name.now c.args.states.now (c.get_mut.follows.lender c.change.new.self) (Some c.change.new.self)
    ((c.get_mut.follows.holds c.change.new.self).3 (search rules)) u

-- the value under the name, of the states before
there : (c : goal.After-states-in-Some-1) (u : List ℕ) → bytes_eq c.args.name.now u ≡ true → get_by_text c.args.states.now u ≡ Some c.in-Some.state.now
there c u same =
    let one : c.args.name.now ≡ u = grind (arith, bytes_eq-Decides c.args.name.now u, same) in
    subst (λ w. get_by_text c.args.states.now w ≡ Some c.in-Some.state.now) one (sym c.in-Some.ensures.value)

pub returns-in-Some-clause-ok : goal.returns-in-Some-clause-ok
returns-in-Some-clause-ok c =
    OnOk-map c.change.result
    (λ made u. updated c u ∙ changed_at (after c.args.change.now) (bytes_eq c.args.name.now u) c.in-Some.state.now c.change.new.self (get_by_text c.args.states.now u) (there c u) made)
    c.change.ensures.ok

pub returns-in-Some-clause-err : goal.returns-in-Some-clause-err
returns-in-Some-clause-err c =
    OnErr-map c.change.result
    (λ same u. updated c u ∙ kept_at (bytes_eq c.args.name.now u) c.in-Some.state.now c.change.new.self (get_by_text c.args.states.now u) (there c u) same)
    c.change.ensures.err

pub returns-in-Some-clause-states : goal.returns-in-Some-clause-states
returns-in-Some-clause-states c = λ all u s h.
    state_at (bytes_eq c.args.name.now u) c.change.new.self s (get_by_text c.args.states.now u) c.change.ensures.valid (all u s) (sym (updated c u) ∙ h)

pub returns-in-None-clause-states : goal.returns-in-None-clause-states
returns-in-None-clause-states c = λ all u s h.
    let same : get_by_text c.get_mut.follows.lender-at-none u ≡ get_by_text c.args.states.now u = search rules in all u s (sym same ∙ h)
