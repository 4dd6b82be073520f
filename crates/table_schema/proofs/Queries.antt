-- Queries of one table, and the rows that pass their conditions.
use Rattle.std.proofs.Common.{◌≡◌, ℕ, pos, negsuc, List, [], ◌∷◌, false, None, refl, ◌++◌, map, filter, flat_map, Bool, true, cond, ◌&&◌, ap}
use Rattle.sqlite.specs.declared.types.Value.TheVariants.{Int}
use Rattle.sqlite.specs.Collation.TheVariants.{Binary}
use Rattle.sqlite.specs.Query.{Query, inner, end}
use Rattle.sqlite.specs.Term.{Term, lit, col}
use Rattle.sqlite_sql.specs.Term.{op2}
use Rattle.sqlite_sql.specs.declared.ops.BinaryOp.TheVariants.{Compare}
use Rattle.sqlite_sql.specs.declared.ops.CompareOp.TheVariants.{Eq}
use Rattle.sqlite_value.specs.Order.{Row}

-- a query of one table, with no more than conditions
abbrev pub plain_query : ℕ → List Term → List Term → Query
plain_query tree filter project = record {
  from = inner tree end;
  filter = filter;
  group = None;
  project = project;
  distinct = false;
  collations = [];
  order = [];
  limit = lit (Int (negsuc 0));
  offset = lit (Int (pos 0));
}

abbrev pub equals : ℕ → ℕ → Term
equals place parameter = op2 (Compare Eq Binary) (col 1 place) (col 0 parameter)

-- one table is gone through, and these rows pass
pub staged_is : (params : Row) (p : Row → Bool) (rows : List Row) → flat_map (λ r. cond (p r && true) ((params ∷ r ∷ []) ∷ []) []) rows ≡ map (λ r. params ∷ r ∷ []) (filter p rows)
staged_is params p [] = refl
staged_is params p (r ∷ rows) = elim (p r) as (λ b. cond (b && true) ((params ∷ r ∷ []) ∷ []) [] ++ flat_map (λ r. cond (p r && true) ((params ∷ r ∷ []) ∷ []) []) rows ≡ map (λ r. params ∷ r ∷ []) (cond b (r ∷ filter p rows) (filter p rows))) [
  | true ↦ ap (λ l. (params ∷ r ∷ []) ∷ l) (staged_is params p rows)
  | false ↦ staged_is params p rows
]

-- two conditions
pub staged_are : (params : Row) (p q : Row → Bool) (rows : List Row)
    → flat_map (λ r. cond (p r && (q r && true)) ((params ∷ r ∷ []) ∷ []) []) rows ≡ map (λ r. params ∷ r ∷ []) (filter (λ r. p r && q r) rows)
staged_are params p q [] = refl
staged_are params p q (r ∷ rows) = go (p r) (q r) (staged_are params p q rows)
  where
    go : (a b : Bool) → flat_map (λ r. cond (p r && (q r && true)) ((params ∷ r ∷ []) ∷ []) []) rows ≡ map (λ r. params ∷ r ∷ []) (filter (λ r. p r && q r) rows)
        → cond (a && (b && true)) ((params ∷ r ∷ []) ∷ []) [] ++ flat_map (λ r. cond (p r && (q r && true)) ((params ∷ r ∷ []) ∷ []) []) rows
        ≡ map (λ r. params ∷ r ∷ []) (cond (a && b) (r ∷ filter (λ r. p r && q r) rows) (filter (λ r. p r && q r) rows))
    go true true more = ap (λ l. (params ∷ r ∷ []) ∷ l) more
    go true false more = more
    go false b more = more
