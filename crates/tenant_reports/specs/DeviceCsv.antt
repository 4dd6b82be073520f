-- States of devices as CSV, at `/t/{t}/devices/csv`: POST changes reweights, and which devices are
-- up.
use Rattle.std.specs.Prelude.{ℕ, List, [], ◌∷◌, Option, option_and_then, codes, if◌then◌else◌, None}
use Rattle.serde_json.specs.Data.{Data}
use Rattle.serde_json.specs.Find.{as_str}
use Rattle.crush_report.specs.DeviceCsv.{IsDeviceCsv, device_changes_of}
use Rattle.crush_pool.specs.declared.changes.DeviceChange.{DeviceChange}
use Rattle.tenant_messages.specs.Json.{value_of, both, has_keys, under}
use Rattle.tenant_messages.specs.Numbers.{IsRequestNumber, request_number_of}
use Rattle.tenant_messages.specs.Forms.{IsText, HasExactly, IsUnder}

-- ---- the form of a body, and the changes that it says

-- a text that is a CSV of changes
pub record IsCsv (d : Data) (changes : List DeviceChange) : Type 0 where
  pub text : List ℕ
  pub is_text : IsText d text
  pub says : IsDeviceCsv text changes

-- {"csv": CSV, "request": REQUEST}
pub record IsDeviceCsvBody (d : Data) (asked : List ℕ × List DeviceChange) : Type 0 where
  pub keys : HasExactly (codes "csv" ∷ codes "request" ∷ []) d
  pub csv : IsUnder (codes "csv") IsCsv d asked.1
  pub request : IsUnder (codes "request") IsRequestNumber d asked.0

-- ---- reading a body

-- changes are read exactly where the body has that form (law `device_csv_requests_are_of_the_form`)

abbrev pub csv_of : Data → Option (List DeviceChange)
csv_of d = option_and_then device_changes_of (as_str d)

-- the request number, and the changes
abbrev pub changes_of : Data → Option (List ℕ × List DeviceChange)
changes_of d =
    if has_keys 2 d then both (λ number changes. (number, changes)) (under (codes "request") request_number_of d) (under (codes "csv") csv_of d) else None

abbrev pub device_csv_request_of : List ℕ → Option (List ℕ × List DeviceChange)
device_csv_request_of body = option_and_then changes_of (value_of body)
