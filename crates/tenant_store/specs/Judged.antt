-- The names whose receipts were judged, each with the number of its versions.
use Rattle.std.specs.Prelude.{◌≡◌, ◌≢◌, ◌⊎◌, ℕ, List, length, Option, Some}
use Rattle.table_schema.specs.sqlite_trees.specs.Tree.{Trees}
use Rattle.tenant_core.specs.tenant_state.specs.State.{TenantState}
use Rattle.tenant_tables.specs.Rows.{StandsFor}

-- the number of versions that is remembered of a name
abbrev pub Counts : Type 0
Counts = List ℕ → Option ℕ

-- each remembered name stands for a state with the remembered number of versions
abbrev pub AreJudged : Trees → Counts → Type 0
AreJudged db counts = (t : List ℕ) (n : ℕ) → counts t ≡ Some n → (s : TenantState) × StandsFor db t (Some s) × (length s.versions ≡ n)

-- each number that is remembered is `n` for the name, or was remembered before
abbrev pub Adds : List ℕ → ℕ → Counts → Counts → Type 0
Adds name n old new = (t : List ℕ) (m : ℕ) → new t ≡ Some m → ((t ≡ name) × (m ≡ n)) ⊎ (old t ≡ Some m)

-- each number that is remembered is `n` for the name, or was remembered before for another name
abbrev pub Updates : List ℕ → ℕ → Counts → Counts → Type 0
Updates name n old new = (t : List ℕ) (m : ℕ) → new t ≡ Some m → ((t ≡ name) × (m ≡ n)) ⊎ ((t ≢ name) × (old t ≡ Some m))

-- each number that is remembered was remembered before, for another name
abbrev pub Forgets : List ℕ → Counts → Counts → Type 0
Forgets name old new = (t : List ℕ) (m : ℕ) → new t ≡ Some m → (t ≢ name) × (old t ≡ Some m)
