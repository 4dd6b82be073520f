-- What changes make of the states that names stand for.
use Rattle.std.proofs.Common.{◌≡◌, inl, inr, ℕ, List, length, Option, Some, None, Result, Ok, Err, OnOk, OnErr, sym, subst, ◌∙◌, arith}
use Rattle.sqlite.proofs.StateLemmas.{survives_then, survives_weaker}
use Rattle.sqlite.specs.Effect.{Database}
use Rattle.sqlite.specs.State.{State as Shown, HasCleanDisk, Survives}
use Rattle.table_schema.specs.sqlite_trees.specs.Tree.{Trees}
use Rattle.tenant_tables.proofs.Turns.{dropped}
use Rattle.tenant_tables.proofs.Whole.{has_rows, is_tenant}
use Rattle.tenant_tables.specs.Changes.{IsChangeable, Turns}
use Rattle.tenant_tables.specs.Rows.{StandsFor}
use Rattle.tenant_core.specs.tenant_state.specs.State.{CanMake, Change, TenantState, after, epoch}
use Rattle.tenant_tables.specs.Change.{Drops, IsNumber}
use Rattle.table_schema.specs.Found.{Names}
use Rattle.table_schema.specs.Holds.{IsTenant}
use Rattle.table_schema.specs.declared.find.Tenant.{Tenant}
use Rattle.tenant_store.specs.Shown.{OneState}
use Rattle.tenant_store.specs.Judged.{AreJudged, Counts, Forgets, Updates}

-- the tenant that was found can be changed, in rows that are the same
pub is_changeable : (old mid : Database) (name : List ℕ) (s : TenantState) (tenant : Tenant) (versions : ℕ) (change : Change) → mid ≡ old → Names old.trees name (Some tenant) → StandsFor old.trees name (Some s)
    → versions ≡ length s.versions → CanMake change s → IsChangeable mid.trees name s tenant versions change
is_changeable old mid name s tenant versions change same names has count can =
    subst (λ (d : Database). IsChangeable d.trees name s tenant versions change) (sym same) (record { names = names; state = has; count = count; can = can })

-- the number of the tenant that was found
pub is_numbered : (db : Trees) (name : List ℕ) (s : TenantState) (tenant : Tenant) → Names db name (Some tenant) → StandsFor db name (Some s) → IsTenant db name tenant.id (epoch s)
is_numbered db name s tenant names has = is_tenant db name tenant (epoch s) names (has_rows db name tenant s names has).epoch_is

pub is_number : (db : Trees) (name : List ℕ) (s : TenantState) (tenant : Tenant) → Names db name (Some tenant) → StandsFor db name (Some s) → IsNumber db tenant.id
is_number db name s tenant names has = (name, epoch s, is_numbered db name s tenant names has)

-- the tenant that was found is gone
pub is_dropped : (old new : Trees) (name : List ℕ) (s : TenantState) (tenant : Tenant) → Names old name (Some tenant) → StandsFor old name (Some s) → Drops tenant.id old new → Turns name None old new
is_dropped old new name s tenant names has = dropped name tenant.id s old new has (is_numbered old name s tenant names has)

-- what is remembered stays true where the number of the name follows its state
pub still_judged : (name : List ℕ) (s : TenantState) (n : ℕ) (old new : Trees) (counts now : Counts) → AreJudged old counts → Turns name (Some s) old new → n ≡ length s.versions → Updates name n counts now → AreJudged new now
still_judged name s n old new counts now judged turns is updates t m found = elim (updates t m found) [
  | inl it ↦ (s, subst (λ u. StandsFor new u (Some s)) (sym it.0) turns.own, sym is ∙ sym it.1)
  | inr it ↦ let was = judged t m it.1 in (was.0, (turns.others t (Some was.0) it.0).0 was.1, was.2)
]

-- it stays true too where the name is forgotten
pub others_judged : (name : List ℕ) (s : Option TenantState) (old new : Trees) (counts now : Counts) → AreJudged old counts → Turns name s old new → Forgets name counts now → AreJudged new now
others_judged name s old new counts now judged turns forgets t m found =
    let it = forgets t m found in
    let was = judged t m it.1 in (was.0, (turns.others t (Some was.0) it.0).0 was.1, was.2)

pub less_judged : (name : List ℕ) (db : Trees) (counts now : Counts) → AreJudged db counts → Forgets name counts now → AreJudged db now
less_judged name db counts now judged forgets t m found = judged t m (forgets t m found).1

-- what a stop leaves of a change of the tenant that was found
pub commit_survives : (old mid new : Shown) (name : List ℕ) (tenant : Tenant) (versions : ℕ) (change : Change) → Survives old mid (λ _. ⊥)
    → Survives mid new (λ db. (n : List ℕ) (s : TenantState) → IsChangeable mid.now.trees n s tenant versions change → Turns n (Some (after change s)) mid.now.trees db)
    → (HasCleanDisk mid → mid.now ≡ old.now) → (HasCleanDisk mid → Names old.now.trees name (Some tenant)) → (HasCleanDisk mid → (s : TenantState) → StandsFor old.now.trees name (Some s) → versions ≡ length s.versions)
    → Survives old new (λ db. (s : TenantState) → StandsFor old.now.trees name (Some s) → CanMake change s → Turns name (Some (after change s)) old.now.trees db)
commit_survives old mid new name tenant versions change one two same names count =
    survives_then old mid new (λ _. ⊥) (λ db. (n : List ℕ) (s : TenantState) → IsChangeable mid.now.trees n s tenant versions change → Turns n (Some (after change s)) mid.now.trees db)
    (λ db. (s : TenantState) → StandsFor old.now.trees name (Some s) → CanMake change s → Turns name (Some (after change s)) old.now.trees db) (λ clean db none. absurd none)
    (λ clean db made s has can.
    let late : HasCleanDisk mid = omega (arith, clean, two.clean) in
    let early : HasCleanDisk old = omega (arith, late, one.clean) in
    let it = is_changeable old.now mid.now name s tenant versions change (same late) (names late) has (count late s has) can in
    subst (λ (d : Database). Turns name (Some (after change s)) d.trees db) (same late) (made name s it)) one two

-- what a stop leaves of its removal
pub remove_survives : (old mid new : Shown) (name : List ℕ) (tenant : Tenant) → Survives old mid (λ _. ⊥) → Survives mid new (Drops tenant.id mid.now.trees) → (HasCleanDisk mid → mid.now ≡ old.now)
    → (HasCleanDisk mid → Names old.now.trees name (Some tenant)) → (HasCleanDisk old → (s : TenantState) × StandsFor old.now.trees name (Some s)) → Survives old new (Turns name None old.now.trees)
remove_survives old mid new name tenant one two same names there =
    survives_then old mid new (λ _. ⊥) (Drops tenant.id mid.now.trees) (Turns name None old.now.trees) (λ clean db none. absurd none)
    (λ clean db drops.
    let late : HasCleanDisk mid = omega (arith, clean, two.clean) in
    let early : HasCleanDisk old = omega (arith, late, one.clean) in
    let it = there early in
    is_dropped old.now.trees db name it.0 tenant (names late) it.1 (subst (λ (d : Database). Drops tenant.id d.trees db) (same late) drops)) one two

-- two calls leave nothing that each of them doesn't
pub nothing_left : (old mid new : Shown) → Survives old mid (λ _. ⊥) → Survives mid new (λ _. ⊥) → Survives old new (λ _. ⊥)
nothing_left old mid new one two = survives_then old mid new (λ _. ⊥) (λ _. ⊥) (λ _. ⊥) (λ clean db none. absurd none) (λ clean db none. absurd none) one two

-- what is remembered after a call that turns a name, or does nothing
pub forgotten_judged : {A E : Type 0} (r : Result A E) (name : List ℕ) (s : Option TenantState) (old new : Database) (counts now : Counts) → OnOk r (Turns name s old.trees new.trees) → OnErr r (new ≡ old)
    → AreJudged old.trees counts → Forgets name counts now → AreJudged new.trees now
forgotten_judged (Ok a) name s old new counts now made kept judged forgets = others_judged name s old.trees new.trees counts now judged made forgets
forgotten_judged (Err e) name s old new counts now made kept judged forgets = subst (λ (d : Database). AreJudged d.trees now) (sym kept) (less_judged name old.trees counts now judged forgets)

some_is : (s t : TenantState) → Some s ≡ Some t → s ≡ t
some_is s t h = cc

-- a state of a name can make what the name's only state can
pub can_make : OneState → (db : Trees) (name : List ℕ) (s t : TenantState) (change : Change) → StandsFor db name (Some s) → StandsFor db name (Some t) → CanMake change t → CanMake change s
can_make one db name s t change has also can = subst (CanMake change) (some_is t s (one db name (Some t) (Some s) also has)) can
