-- The devices that can touch a group, and their pairs.
use Rattle.std.specs.Prelude.{◌≡◌, ℕ, ◌==◌, List, [], ◌∷◌, map, filter, if◌then◌else◌}
use Rattle.crush_map.specs.Faults.{has_number}
use Rattle.crush_report.specs.declared.touches.Touch.{Touch}

-- no number is there twice
abbrev pub AreOnce : List ℕ → Type 0
AreOnce numbers = (d : ℕ) → filter (λ n. n == d) numbers ≡ (if has_number numbers d then d ∷ [] else [])

abbrev pub touch : ℕ → ℕ → Touch
touch group device = record { device = device; group = group }

-- a pair of each of the devices and a group
abbrev pub touches_of : ℕ → List ℕ → List Touch
touches_of group devices = map (touch group) devices
