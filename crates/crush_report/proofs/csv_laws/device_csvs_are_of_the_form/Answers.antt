use Rattle.std.proofs.Common.{◌≡◌, ℕ, List, Some, None, refl}
use Rattle.std.specs.Prelude.{Option}
use Rattle.crush_report.specs.DeviceCsv.{IsDeviceCsv, device_changes_of}
use Rattle.crush_pool.specs.declared.changes.DeviceChange.{DeviceChange}
use Rattle.crush_report.proofs.DeviceForms.{text_found, text_says}
use Rattle.crush_report.proofs.csv_laws.device_csvs_are_of_the_form.Goals as goal

unsaid : (text : List ℕ) → device_changes_of text ≡ None → (cs : List DeviceChange) → IsDeviceCsv text cs → ⊥
unsaid text e cs is = cc (text_found text cs is)

no_form : (text : List ℕ) → ((cs : List DeviceChange) → IsDeviceCsv text cs → ⊥) → device_changes_of text ≡ None
no_form text none = on_found (device_changes_of text) refl
  where
    on_found : (found : Option (List DeviceChange)) → device_changes_of text ≡ found → found ≡ None
    on_found None e = refl
    on_found (Some cs) e = absurd (none cs (text_says text cs e))

pub returns : goal.returns
returns c = record {
  read = λ text cs. (text_says text cs, text_found text cs);
  refused = λ text. (unsaid text, no_form text);
}
