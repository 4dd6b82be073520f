use Rattle.tenant_reports.proofs.Texts.{row_by_pieces}
use Rattle.tenant_reports.proofs.moves.MoveRowReportRow.push.Goals as goal

pub returns : goal.returns
returns c =
    rw (c.in_ok-push_str.ensures.bytes, c.in_ok-push_slots-2.ensures, c.as_slice-2.ensures, c.in_ok-push_slots.ensures, c.as_slice.ensures, c.in_ok-push_number-2.ensures, c.from.ensures, c.in_ok-push_number.ensures)
    (row_by_pieces _ c.args.self.now)
