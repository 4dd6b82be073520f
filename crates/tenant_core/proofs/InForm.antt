-- A changing request that is read is in its form: its number has its length, and its order is in
-- its ranges.
use Rattle.std.proofs.Common.{◌≡◌, ℕ, List, [], ◌∷◌, length, true, nat_le, Option, Some, None, refl, arith}
use Rattle.std.proofs.lemmas.Bool.Decides.{nat_tests}
use Rattle.std.specs.List.{AllZip, list_all}
use Rattle.std.specs.Option.{option_map_or}
use Rattle.std.specs.Prelude.{codes}
use Rattle.serde_json.specs.Data.{Data}
use Rattle.crush_pool.specs.crush_choose.specs.declared.weights.TheConstants.{FULL}
use Rattle.crush_map.specs.declared.limits.TheConstants.{NUMBER_LIMIT}
use Rattle.crush_pool.specs.declared.changes.DeviceChange.{DeviceChange}
use Rattle.crush_pool.specs.declared.pool.PoolParts.{PoolParts}
use Rattle.crush_report.specs.DeviceCsv.{IsChangeRecord, IsNumber, Says}
use Rattle.tenant_messages.specs.Forms.{IsUnder}
use Rattle.tenant_messages.specs.Numbers.{IsRequestNumber, has_length}
use Rattle.tenant_messages.specs.declared.limits.TheConstants.{REQUEST_NUMBER_LIMIT}
use Rattle.tenant_reports.proofs.CsvForms.{finds_changes as finds_csv_changes}
use Rattle.tenant_reports.specs.DeviceCsv.{changes_of as csv_changes_of}
use Rattle.tenant_resources.proofs.DeviceForms.{finds_changes}
use Rattle.tenant_resources.proofs.DeviceRanges.{changes_in_range}
use Rattle.tenant_resources.proofs.PoolForms.{finds_pool}
use Rattle.tenant_resources.specs.Devices.{changes_of, is_in_range}
use Rattle.tenant_resources.specs.Pools.{pool_of}

-- ---- request numbers

number_in_form : (d : Data) (number : List ℕ) → IsUnder (codes "request") IsRequestNumber d number → has_length number ≡ true
number_in_form d number is =
    let some = is.says.some in
    let few = is.says.few in
    let least : nat_le 1 (length number) ≡ true = grind (arith, nat_tests, some) in
    let most : nat_le (length number) REQUEST_NUMBER_LIMIT ≡ true = grind (arith, nat_tests, few) in rw (least, most) refl

pub pool_number : (d : Data) (asked : List ℕ × PoolParts) → pool_of d ≡ Some asked → has_length asked.0 ≡ true
pool_number d asked h = number_in_form d asked.0 (finds_pool.says d asked h).request

-- ---- orders

pub changes_order : (d : Data) (asked : List ℕ × List DeviceChange) → changes_of d ≡ Some asked → list_all is_in_range asked.1 ≡ true
changes_order d asked h = let listed = (finds_changes.says d asked h).devices.says in changes_in_range listed.values asked.1 listed.each

weight_in_range : (text : List ℕ) (o : Option ℕ) → Says (IsNumber FULL) text o → option_map_or (λ w. nat_le w FULL) o true ≡ true
weight_in_range text None is = absurd is
weight_in_range text (Some w) is = let most = is.most in grind (arith, nat_tests, most)

record_in_range : (fields : List (List ℕ)) (c : DeviceChange) → IsChangeRecord fields c → is_in_range c ≡ true
record_in_range fields c is =
    let most = is.device.most in
    let device : nat_le c.device NUMBER_LIMIT ≡ true = grind (arith, nat_tests, most) in
    let reweight = weight_in_range is.weight c.reweight is.reweight in rw (device, reweight) refl

records_in_range : (rows : List (List (List ℕ))) (cs : List DeviceChange) → AllZip IsChangeRecord rows cs → list_all is_in_range cs ≡ true
records_in_range [] [] is = refl
records_in_range [] (c ∷ cs) is = absurd is
records_in_range (r ∷ rs) [] is = absurd is
records_in_range (r ∷ rs) (c ∷ cs) is = let one = record_in_range r c is.0 in let rest = records_in_range rs cs is.1 in rw (one, rest) refl

pub csv_order : (d : Data) (asked : List ℕ × List DeviceChange) → csv_changes_of d ≡ Some asked → list_all is_in_range asked.1 ≡ true
csv_order d asked h = let says = (finds_csv_changes.says d asked h).csv.says.says in records_in_range says.rows asked.1 says.each
