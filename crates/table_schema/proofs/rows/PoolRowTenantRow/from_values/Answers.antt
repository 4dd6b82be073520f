use mir.Val.{SFits}
use mir.Syntax.{w64}
use Rattle.std.proofs.Common.{rules, ◌≡◌, length, ◌∙◌}
use Rattle.std.proofs.lemmas.Int.{to_z-of_z}
use Rattle.table_schema.proofs.RowLengths.{nine}
use Rattle.table_schema.proofs.rows.PoolRowTenantRow.from_values.Goals as goal

pub returns-clause-some : goal.returns-clause-some
returns-clause-some c =
    let row = c.args.row.now in
    let long : length row ≡ 9 = search rules in
    let fits-0 : SFits w64 c.in_ok-int.field-0 = search rules in
    let fits-2 : SFits w64 c.in_ok-int-2.field-0 = search rules in
    let fits-3 : SFits w64 c.in_ok-int-3.field-0 = search rules in
    let fits-4 : SFits w64 c.in_ok-int-4.field-0 = search rules in
    let fits-5 : SFits w64 c.in_ok-int-5.field-0 = search rules in
    let fits-6 : SFits w64 c.in_ok-int-6.field-0 = search rules in
    let fits-7 : SFits w64 c.in_ok-int-7.field-0 = search rules in
    let fits-8 : SFits w64 c.in_ok-int-8.field-0 = search rules in
    simp to_z-of_z (nine row long ∙ rw (c.in_ok-int.ensures.some.1, c.in_ok-text.ensures.some.1, c.in_ok-int-2.ensures.some.1, c.in_ok-int-3.ensures.some.1, c.in_ok-int-4.ensures.some.1, c.in_ok-int-5.ensures.some.1, c.in_ok-int-6.ensures.some.1, c.in_ok-int-7.ensures.some.1, c.in_ok-int-8.ensures.some.1))
