use Rattle.std.proofs.Common.{◌≡◌, true≢false, pos, sym, subst, ◌∙◌}
use Rattle.sqlite_value.specs.declared.value.Value.TheVariants.{Int}
use Rattle.sqlite_schema.specs.declared.code.Op.TheVariants.{Literal, Column, Binary}
use Rattle.table_schema.proofs.Tested.{node, equality, is_test, from_test}
use Rattle.table_schema.proofs.one_test.is_test.Goals as goal

pub returns-in_default : goal.returns-in_default
returns-in_default c = (
  λ no. absurd (true≢false (sym no)),
  λ is. let it = is_test c.args.nodes.now c.args.root is in absurd (c.sides.ensures.other c.in_default.is it.first it.second it.equal),
)

pub returns-then-is_first_column : goal.returns-then-is_first_column
returns-then-is_first_column c = (
  λ one. from_test c.args.nodes.now c.args.root (record {
    first = c.in-Some.first;
    second = c.in-Some.second;
    equal = c.in-Some.ensures.equal;
    column = c.is_first_column.ensures.0 c.if-is_first_column.true;
    one = c.is_number_one.ensures.0 one;
  }),
  λ is.
      let it = is_test c.args.nodes.now c.args.root is in
      let both : Binary equality it.first it.second ≡ Binary equality c.in-Some.first c.in-Some.second = sym it.equal ∙ c.in-Some.ensures.equal in
      let same : it.second ≡ c.in-Some.second = cc in
      c.is_number_one.ensures.1 (subst (λ n. node c.args.nodes.now n ≡ Literal (Int (pos 1))) same it.one),
)

pub returns-else-is_first_column : goal.returns-else-is_first_column
returns-else-is_first_column c = (
  λ yes. absurd (true≢false (sym yes ∙ c.if-is_first_column.false)),
  λ is.
      let it = is_test c.args.nodes.now c.args.root is in
      let both : Binary equality it.first it.second ≡ Binary equality c.in-Some.first c.in-Some.second = sym it.equal ∙ c.in-Some.ensures.equal in
      let same : it.first ≡ c.in-Some.first = cc in
      c.is_first_column.ensures.1 (subst (λ n. node c.args.nodes.now n ≡ Column 1 0) same it.column),
)
