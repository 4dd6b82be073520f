use Rattle.std.proofs.Common.{◌∙◌, rules, refl, sym, ap, subst}
use Rattle.tenant_state.proofs.Leaving.{parts_stay}
use Rattle.tenant_state.specs.Made.{made_of}
use Rattle.tenant_state.specs.State.{Change, Inventory, NewExceptions, NewPool, NewStates, NewVersion, RemovedPool, suits}
use Rattle.tenant_state.specs.Valid.{IsMade}
use Rattle.tenant_state.proofs.state.Inventory.after.Goals as goal

pub invariant_of-next : goal.invariant_of-next
invariant_of-next c =
    parts_stay (NewVersion c.in-Version.version.value) _ _ _ _ _ (search rules) refl refl (subst (λ m. IsMade (made_of m)) c.in-Version.is c.change.invariant.made) refl c.next.invariant

pub invariant_of-next-in-States : goal.invariant_of-next-in-States
invariant_of-next-in-States c =
    parts_stay (NewStates c.in-States.changed) _ _ _ _ _ refl (search rules) refl (subst (λ m. IsMade (made_of m)) c.in-States.is c.change.invariant.made) refl c.next.invariant

pub invariant_of-next-in-Pool : goal.invariant_of-next-in-Pool
invariant_of-next-in-Pool c =
    parts_stay (NewPool c.in-Pool.pool.value) _ _ _ _ _ refl refl (search rules) (subst (λ m. IsMade (made_of m)) c.in-Pool.is c.change.invariant.made) refl c.next.invariant

pub invariant_of-next-in-NoPool : goal.invariant_of-next-in-NoPool
invariant_of-next-in-NoPool c =
    parts_stay (RemovedPool c.in-NoPool.id) _ _ _ _ _ refl refl (search rules) (subst (λ m. IsMade (made_of m)) c.in-NoPool.is c.change.invariant.made) refl c.next.invariant

pub invariant_of-next-in-Exceptions : goal.invariant_of-next-in-Exceptions
invariant_of-next-in-Exceptions c =
    let made = NewExceptions c.in-Exceptions.id c.in-Exceptions.exceptions in
    let fits =
    ap (λ (i : Inventory). suits made i) (c.next.view_is ∙ c.in_ok-next.ensures)
    ∙ (ap (λ m. suits (made_of m) c.args.self.now) (sym c.in-Exceptions.is) ∙ (ap (λ (x : Change). suits x.made c.args.self.now) c.change.view_is ∙ c.requires.suits)) in
    parts_stay made _ _ _ _ _ refl refl (search rules) (subst (λ m. IsMade (made_of m)) c.in-Exceptions.is c.change.invariant.made) fits c.next.invariant
