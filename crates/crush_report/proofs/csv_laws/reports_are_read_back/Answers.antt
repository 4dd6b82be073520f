use Rattle.std.proofs.Common.{refl}
use Rattle.csv.specs.Reading.{strip_bom}
use Rattle.crush_report.specs.Csv.{move_fields, move_head, usage_fields, usage_head}
use Rattle.crush_report.proofs.ReadBack.{table_is_read}
use Rattle.crush_report.proofs.csv_laws.reports_are_read_back.Goals as goal

pub returns : goal.returns
unfolding strip_bom
returns c = record {
  usage = λ rows. table_is_read usage_head usage_fields refl (λ r. refl) rows;
  moves = λ rows. table_is_read move_head move_fields refl (λ r. refl) rows;
}
