use mir.Val.{SFits}
use mir.Syntax.{w64}
use Rattle.std.proofs.Common.{rules, ◌≡◌, ◌≢◌}
use Rattle.std.proofs.lemmas.Int.{to_z-of_z}
use Rattle.table_schema.proofs.Placing.{in_one_pool, in_two_pools}
use Rattle.table_schema.proofs.rows.ExceptionRowTenantRow.is_below.Goals as goal

pub returns-then-self-other : goal.returns-then-self-other
returns-then-self-other c =
    let first = c.args.self.now in
    let second = c.args.other.now in
    let fits-a : SFits w64 first.pool = search rules in
    let fits-b : SFits w64 second.pool = search rules in
    let fits-c : SFits w64 first.place = search rules in
    let fits-d : SFits w64 second.place = search rules in
    let same : first.pool ≡ second.pool = search rules in
    simp to_z-of_z (in_one_pool first.pool second.pool first.place second.place same)

pub returns-else-self-other : goal.returns-else-self-other
returns-else-self-other c =
    let first = c.args.self.now in
    let second = c.args.other.now in
    let fits-a : SFits w64 first.pool = search rules in
    let fits-b : SFits w64 second.pool = search rules in
    let other : first.pool ≢ second.pool = search rules in
    simp to_z-of_z (in_two_pools first.pool second.pool first.place second.place other)
