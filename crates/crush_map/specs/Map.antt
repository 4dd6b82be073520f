-- What a map is.
use Rattle.std.specs.Prelude.{◌≡◌, List, map, None}
use Rattle.std.specs.List.Sorted.{IsStrictlyIncreasing, IsPermutation}
use Rattle.crush_map.specs.declared.draft.TypeName.{TypeName}
use Rattle.crush_map.specs.declared.draft.Device.{Device}
use Rattle.crush_map.specs.declared.draft.Bucket.{Bucket}
use Rattle.crush_map.specs.declared.draft.Rule.{Rule}
use Rattle.crush_map.specs.declared.draft.Tunables.{Tunables}
use Rattle.crush_map.specs.declared.draft.MapDraft.{MapDraft}
use Rattle.crush_map.specs.Faults.{first_fault}

-- the parts of a map
pub record Map : Type 0 where
  pub types : List TypeName
  pub devices : List Device
  pub buckets : List Bucket
  pub rules : List Rule
  pub tunables : Tunables

-- the draft that declares a map
abbrev pub draft_of : Map → MapDraft
draft_of m = record { types = m.types; devices = m.devices; buckets = m.buckets; rules = m.rules; local_tries = 0; local_fallback_tries = 0; tunables = m.tunables }

-- a map: its draft has no fault, and its types, devices and rules are in ascending order of number
pub record IsMap (m : Map) : Type 0 where
  pub faultless : first_fault (draft_of m) ≡ None
  pub types : IsStrictlyIncreasing (map (λ t. t.number) m.types)
  pub devices : IsStrictlyIncreasing (map (λ d. d.id) m.devices)
  pub rules : IsStrictlyIncreasing (map (λ r. r.id) m.rules)

-- the map of a draft has the draft's elements: buckets in the same order, the others in any order
pub record IsMapOf (d : MapDraft) (m : Map) : Type 0 where
  pub types : IsPermutation d.types m.types
  pub devices : IsPermutation d.devices m.devices
  pub buckets : m.buckets ≡ d.buckets
  pub rules : IsPermutation d.rules m.rules
  pub tunables : m.tunables ≡ d.tunables
