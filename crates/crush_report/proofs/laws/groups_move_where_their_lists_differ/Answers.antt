use Rattle.crush_report.proofs.Moving.{slots_are, are_slots, row_where_moved, no_moves}
use Rattle.crush_report.proofs.laws.groups_move_where_their_lists_differ.Goals as goal

pub returns-clause-same : goal.returns-clause-same
returns-clause-same c first second = (slots_are first second, are_slots first second)

pub returns-clause-rows : goal.returns-clause-rows
returns-clause-rows c old new p group lt = row_where_moved old new p.pg_num group lt

pub returns-clause-itself : goal.returns-clause-itself
returns-clause-itself c m states p pairs rows e = no_moves m states p pairs rows e
