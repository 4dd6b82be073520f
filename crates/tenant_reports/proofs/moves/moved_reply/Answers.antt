use Rattle.tenant_reports.specs.Moves.{moves_reply}
use Rattle.tenant_reports.proofs.moves.moved_reply.Goals as goal

pub returns : goal.returns
returns c = c.done.ensures (moves_reply c.args.inventory.now c.args.id c.args.from c.args.to c.args.rows.now) c.in_ok-text.ensures
