use mir.Val.{SFits}
use mir.Syntax.{w64}
use Rattle.std.proofs.Common.{rules, ◌≡◌, [], ◌∷◌, map, pos, sym, subst, ◌∙◌}
use Rattle.std.proofs.lemmas.Int.{to_z-of_z}
use Rattle.table_schema.specs.sqlite_value.specs.declared.value.Value.TheVariants.{Int}
use Rattle.sqlite.specs.Held.{state}
use Rattle.table_schema.specs.Layout.{info_table}
use Rattle.table_schema.specs.Holds.{rows_in}
use Rattle.tenant_tables.proofs.Versions.{pair, says_version, has_version}
use Rattle.tenant_tables.proofs.open.adopt.Goals as goal

pub returns-then-branch-clause-version : goal.returns-then-branch-clause-version
returns-then-branch-clause-version g c clean =
    let all = rows_in info_table (state g.S.Store c.args.conn.now).now.trees in
    let fits : SFits w64 c.args.version = search rules in
    subst (λ n. map pair all ≡ (Int (pos 1) ∷ Int n ∷ []) ∷ []) (to_z-of_z w64 c.args.version fits)
    (says_version _ all c.in-Ok.rows.items (c.in-Ok.ensures.found clean) (sym c.deref.ensures.value ∙ c.in_ok-is_version.ensures.yes (search rules)))

pub returns-clause-damaged : goal.returns-clause-damaged
returns-clause-damaged g c clean _ version =
    let all = rows_in info_table (state g.S.Store c.args.conn.now).now.trees in
    let fits : SFits w64 c.args.version = search rules in
    let said = subst (λ n. map pair all ≡ (Int (pos 1) ∷ Int n ∷ []) ∷ []) (sym (to_z-of_z w64 c.args.version fits)) version in
    c.in_ok-is_version.ensures.no (search rules) (c.deref.ensures.value ∙ has_version _ all c.in-Ok.rows.items (c.in-Ok.ensures.found clean) said)
