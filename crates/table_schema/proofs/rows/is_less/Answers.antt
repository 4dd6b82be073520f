use mir.Val.{SFits}
use mir.Syntax.{w64}
use Rattle.std.proofs.Common.{rules}
use Rattle.std.proofs.lemmas.Int.{to_z-of_z}
use Rattle.table_schema.proofs.Rising.{below_int, below_int_back}
use Rattle.table_schema.proofs.rows.is_less.Goals as goal

pub returns : goal.returns
returns c =
    let fits : SFits w64 c.args.first = search rules in
    let fits-other : SFits w64 c.args.second = search rules in
    simp to_z-of_z (below_int c.args.first c.args.second, below_int_back c.args.first c.args.second)
