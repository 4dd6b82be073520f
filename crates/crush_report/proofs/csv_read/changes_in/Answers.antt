use Rattle.std.proofs.Common.{◌≡◌, ◌+◌, ◌∙◌, ap, map, take, IfOk, arith}
use Rattle.std.specs.Prelude.{Result}
use Rattle.csv.specs.Reading.{default_config, records, strip_bom}
use Rattle.csv.specs.Records.{fields_of}
use Rattle.crush_report.specs.DeviceCsv.{changes_under_head, device_changes_of}
use Rattle.crush_report.proofs.DeviceTexts.{first_suffice}
use Rattle.crush_report.proofs.csv_read.changes_in.Goals as goal
use Rattle.crush_pool.specs.declared.limits.TheConstants.{CHANGE_LIMIT}

-- the same answer, in other words
same_answer : {T E A : Type 0} (r : Result T E) (view : T → A) (a b : A) → a ≡ b → IfOk r (λ t. view t ≡ a) → IfOk r (λ t. view t ≡ b)
same_answer r view a b e h = rw (← e) h

pub returns : goal.returns
returns c =
    let all = records default_config (strip_bom c.args.text.now) in
    let rows : map fields_of c.deref.result.now ≡ take (CHANGE_LIMIT + 2) all = ap (map fields_of) c.deref.ensures.value ∙ c.in_ok-rows.ensures in
    let same : changes_under_head (map fields_of c.deref.result.now) ≡ device_changes_of c.args.text.now = ap changes_under_head rows ∙ first_suffice (CHANGE_LIMIT + 1) all (omega arith) in
    same_answer c.changes_under_head.result _ _ _ same c.changes_under_head.ensures
