use Rattle.crush_report.proofs.CsvTexts.{usage_written}
use Rattle.crush_report.proofs.csv_write.write_usage.Goals as goal

pub returns : goal.returns
returns c =
    cc (usage_written c.args.out.now.items c.args.row.now, c.in_ok-write_number.ensures, c.in_ok-write_number-2.ensures, c.in_ok-write_number-3.ensures, c.in_ok-write_number-4.ensures, c.in_ok-write_number-5.ensures, c.from.ensures, c.from-2.ensures, c.from-3.ensures, c.from-4.ensures, c.from-5.ensures)
