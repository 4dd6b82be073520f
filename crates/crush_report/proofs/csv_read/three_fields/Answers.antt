use Rattle.std.proofs.Common.{◌∙◌, sym, arith}
use Rattle.csv.specs.Records.{fields_of}
use Rattle.csv.proofs.RecordFacts.{field-there}
use Rattle.crush_report.proofs.DeviceTexts.{all_three, no_three}
use Rattle.crush_report.proofs.csv_read.three_fields.Goals as goal

pub returns-then-len-ne3 : goal.returns-then-len-ne3
returns-then-len-ne3 c = sym (no_three (fields_of c.args.row.now) (λ h. c.if-len-ne3.true (c.len.ensures ∙ h)))

pub returns-in_err-get : goal.returns-in_err-get
returns-in_err-get c = absurd (field-there (fields_of c.args.row.now) 0 (omega (arith, c.len.ensures, c.if-len-ne3.false)) (sym c.in_err-get.ensures.value))

pub returns-in_err-get-2 : goal.returns-in_err-get-2
returns-in_err-get-2 c = absurd (field-there (fields_of c.args.row.now) 1 (omega (arith, c.len.ensures, c.if-len-ne3.false)) (sym c.in_err-get-2.ensures.value))

pub returns-in_err-get-3 : goal.returns-in_err-get-3
returns-in_err-get-3 c = absurd (field-there (fields_of c.args.row.now) 2 (omega (arith, c.len.ensures, c.if-len-ne3.false)) (sym c.in_err-get-3.ensures.value))

pub returns : goal.returns
returns c =
    all_three (fields_of c.args.row.now) _ _ _ (omega (arith, c.len.ensures, c.if-len-ne3.false)) c.in_ok-get.ensures.value c.in_ok-get-2.ensures.value c.in_ok-get-3.ensures.value
