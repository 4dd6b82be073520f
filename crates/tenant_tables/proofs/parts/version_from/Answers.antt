use Rattle.std.proofs.Common.{◌≡◌, rules, subst, sym}
use Rattle.crush_map.specs.Map.{IsMap}
use Rattle.table_schema.specs.Found.{version_values}
use Rattle.tenant_tables.specs.Rows.{row_of_version}
use Rattle.tenant_tables.proofs.parts.version_from.Goals as goal

pub returns-in-Some-clause-some : goal.returns-in-Some-clause-some
returns-in-Some-clause-some c =
    let it = (c.in_ok-version.ensures c.in-Some.version).0 c.in-Some.is in
    let same = sym c.in_ok-new-in-Some.ensures.ok in
    let row : version_values c.args.row ≡ row_of_version c.args.number c.in-Some.version = search (rules, it.1) in
    (subst IsMap same it.0, subst (λ m. version_values c.args.row ≡ row_of_version c.args.number m) same row)
