-- Names and kinds belong together one to one, but for straw2, which no name asks for.
use Rattle.std.proofs.Common.{◌≡◌, ◌≢◌, ℕ, List, Bool, true, false, Some, None, bytes_eq, if◌then◌else◌, refl}
use Rattle.std.proofs.lemmas.Slice.Eq.{bytes_eq-Decides}
use Rattle.crush_types.specs.Kinds.{kind_name, kind_named}
use Rattle.crush_types.specs.declared.word.Kind.{Kind}
use Rattle.crush_types.specs.declared.word.Kind.TheVariants.{Uniform, List as ListKind, Tree, Straw2}

pub kind_of_name : (k : Kind) → k ≢ Straw2 → kind_named (kind_name k) ≡ Some k
kind_of_name Uniform other = refl
kind_of_name ListKind other = refl
kind_of_name Tree other = refl
kind_of_name Straw2 other = absurd (other refl)

named : (name : List ℕ) (k : Kind) (u l t : Bool) → bytes_eq name (kind_name Uniform) ≡ u → bytes_eq name (kind_name ListKind) ≡ l → bytes_eq name (kind_name Tree) ≡ t
    → (if u then Some Uniform else (if l then Some ListKind else (if t then Some Tree else None))) ≡ Some k → (name ≡ kind_name k) × (k ≢ Straw2)
named name k true l t is_u is_l is_t h = let same : Uniform ≡ k = cc in rw (← same) ((bytes_eq-Decides name (kind_name Uniform)).0 is_u, (λ e. cc))
named name k false true t is_u is_l is_t h = let same : ListKind ≡ k = cc in rw (← same) ((bytes_eq-Decides name (kind_name ListKind)).0 is_l, (λ e. cc))
named name k false false true is_u is_l is_t h = let same : Tree ≡ k = cc in rw (← same) ((bytes_eq-Decides name (kind_name Tree)).0 is_t, (λ e. cc))
named name k false false false is_u is_l is_t h = cc

pub name_of_kind : (name : List ℕ) (k : Kind) → kind_named name ≡ Some k → (name ≡ kind_name k) × (k ≢ Straw2)
name_of_kind name k h = named name k _ _ _ refl refl refl h
