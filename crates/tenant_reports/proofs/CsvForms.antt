-- Changes of devices are read from a body with a CSV exactly where body and CSV have their forms.
use Rattle.std.proofs.Common.{◌≡◌, ℕ, List, [], ◌∷◌, Option, Some, None, option_and_then, refl}
use Rattle.std.specs.Prelude.{codes}
use Rattle.serde_json.specs.Data.{Data}
use Rattle.serde_json.specs.Find.{as_str}
use Rattle.crush_report.proofs.DeviceForms.{text_says, text_found}
use Rattle.crush_report.specs.DeviceCsv.{device_changes_of}
use Rattle.crush_pool.specs.declared.changes.DeviceChange.{DeviceChange}
use Rattle.tenant_messages.proofs.Finding.{Finds, finds_as, finds_both, finds_number, finds_object, finds_text, finds_under, is_there}
use Rattle.tenant_reports.specs.DeviceCsv.{IsCsv, IsDeviceCsvBody, csv_of, changes_of}

csv_says : (d : Data) (changes : List DeviceChange) (o : Option (List ℕ)) → as_str d ≡ o → option_and_then device_changes_of o ≡ Some changes → IsCsv d changes
csv_says d changes None is h = cc
csv_says d changes (Some text) is h = record { text = text; is_text = finds_text.says d text is; says = text_says text changes h }

finds_csv : Finds csv_of IsCsv
finds_csv = record {
  says = λ d changes h. csv_says d changes (as_str d) refl h;
  found = λ d changes is. rw (finds_text.found d is.text is.is_text) (text_found is.text changes is.says);
}

pub finds_changes : Finds changes_of IsDeviceCsvBody
finds_changes = finds_as (λ d a is. record { keys = is.0; csv = is.1.1; request = is.1.0 }) (λ d a is. (is.keys, (is.request, is.csv)))
    (finds_object (codes "csv" ∷ codes "request" ∷ []) refl (λ d a is. (is_there (codes "csv") d a.1 is.1, (is_there (codes "request") d a.0 is.0, tt)))
    (finds_both (λ number changes. (number, changes)) (λ a. a.0) (λ a. a.1) (λ a b. refl) (λ a b. refl) (λ a. refl)
    (finds_under (codes "request") finds_number) (finds_under (codes "csv") finds_csv)))
