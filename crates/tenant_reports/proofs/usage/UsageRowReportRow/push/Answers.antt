use Rattle.tenant_reports.proofs.UsageTexts.{row_by_pieces}
use Rattle.tenant_reports.proofs.usage.UsageRowReportRow.push.Goals as goal

pub returns : goal.returns
returns c =
    rw (
      c.in_ok-push_str.ensures.bytes,
      c.in_ok-push_number-5.ensures,
      c.from-5.ensures,
      c.in_ok-push_number-4.ensures,
      c.from-4.ensures,
      c.in_ok-push_number-3.ensures,
      c.from-3.ensures,
      c.in_ok-push_number-2.ensures,
      c.from-2.ensures,
      c.in_ok-push_number.ensures,
      c.from.ensures,
    ) (row_by_pieces _ c.args.self.now)
