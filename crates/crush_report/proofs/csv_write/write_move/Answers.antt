use Rattle.crush_report.proofs.CsvTexts.{move_written}
use Rattle.crush_report.proofs.csv_write.write_move.Goals as goal

pub returns : goal.returns
returns c =
    cc (move_written c.args.out.now.items c.args.row.now, c.in_ok-write_number.ensures, c.in_ok-write_number-2.ensures, c.in_ok-write_list.ensures, c.in_ok-push.ensures.items, c.in_ok-write_list-2.ensures, c.in_ok-push-2.ensures.items, c.from.ensures, c.as_slice.ensures, c.as_slice-2.ensures)
