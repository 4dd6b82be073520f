use mir.Val.{SFits}
use mir.Syntax.{w64}
use Rattle.std.proofs.Common.{◌≡◌, ◌++◌, ℤ, map, length, pos, rules, arith, sym, ap, subst, ◌∙◌, to_z, of_z}
use Rattle.std.specs.Vec.Iter.{into_iter_items}
use Rattle.std.proofs.lemmas.Int.{to_z-of_z}
use Rattle.table_schema.specs.sqlite_rules.specs.Lists.{Has}
use Rattle.table_schema.specs.sqlite_value.specs.Order.{column}
use Rattle.table_schema.specs.sqlite_value.specs.declared.value.Value.TheVariants.{Int}
use Rattle.table_schema.specs.Found.{pool_values}
use Rattle.tenant_tables.proofs.PairRows.{has_it, none_more}
use Rattle.tenant_tables.proofs.Reading.{push_front}
use Rattle.tenant_tables.proofs.change.row_with.Goals as goal

-- the row has the id
pub returns-then-row-from-clause-some : goal.returns-then-row-from-clause-some
returns-then-row-from-clause-some c =
    let row = c.in-Some.row in
    let fits : SFits w64 row.id = search rules in
    let also : SFits w64 c.from.result = search rules in
    let all = ap (λ l. c.loop-row.yielded ++ l) (sym c.in-Some.ensures.steps.0) ∙ c.loop-row.invariant.all in (
      subst (λ l. Has (map pool_values l) (pool_values row)) all (has_it c.loop-row.yielded row (into_iter_items c.next.new.self)),
      sym (to_z-of_z w64 row.id fits) ∙ (ap (to_z w64) c.if-row-from.true ∙ (to_z-of_z w64 c.from.result also ∙ c.from.ensures)),
    )

-- it has another one
pub loop-row-preserved : goal.loop-row-preserved
loop-row-preserved c =
    let row = c.in-Some.row in record {
      all = push_front c.loop-row.yielded row (into_iter_items c.next.new.self) ∙ (ap (λ l. c.loop-row.yielded ++ l) (sym c.in-Some.ensures.steps.0) ∙ c.loop-row.invariant.all);
      long = omega (arith, c.in-Some.ensures.steps.1, c.loop-row.invariant.long, ap length c.in-Some.ensures.steps.0);
      others = none_more (λ v. column v 0 ≡ Int (pos c.args.id) → ⊥) c.loop-row.yielded row c.loop-row.invariant.others
          (λ is. c.if-row-from.false (ap (of_z w64) (same row.id (pos c.args.id) is ∙ sym c.from.ensures)));
    }
  where
    same : (a b : ℤ) → Int a ≡ Int b → a ≡ b
    same a b h = cc
