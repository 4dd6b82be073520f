-- What a cache keeps.
use Rattle.std.specs.Prelude.{◌≡◌, ℕ, ◌+◌, ◌<◌, ◌≤◌, ◌^◌, List, Contains, length, nat_le, Some}
use Rattle.crush_pool.specs.crush_map.specs.Map.{IsMap, Map}
use Rattle.crush_text.specs.crush_writing.specs.Canonical.{canonical}
use Rattle.crush_pool.specs.Placements.{placement}
use Rattle.crush_pool.specs.declared.placing.Placement.{Placement}
use Rattle.crush_cache.specs.Caches.{IsNumberOf, Numbered}
use Rattle.crush_pool.specs.Contents.{Content}
use Rattle.crush_cache.specs.declared.entries.Key.{Key}
use Rattle.crush_cache.specs.declared.limits.TheConstants.{CONTENT_LIMIT, LONG_LIMIT}
use Rattle.crush_pool.specs.declared.content.TheConstants.{LONG_TEXT}
use Rattle.std.specs.List.{filter}

-- how many contents have a long text
abbrev pub long_in : List Content → ℕ
long_in contents = length (filter (λ c. nat_le LONG_TEXT (length c.text)) contents)

-- there are not too many contents, nor too many with a long text, and their numbers fit
pub record AreNumbered (k : Numbered) : Type 0 where
  pub few : length k.contents ≤ CONTENT_LIMIT
  pub long : long_in k.contents ≤ LONG_LIMIT
  pub fit : k.first + length k.contents < 2 ^ 64

-- the placement of a group: by each map that has the content's text
abbrev pub IsPlacementOf : Content → ℕ → Placement → Type 0
IsPlacementOf c group p = (m : Map) → IsMap m → c.text ≡ canonical m → placement m c.states c.pool c.pairs group ≡ Some p

-- that of a group of the content with a number, which is there
abbrev pub IsPlacementIn : Numbered → ℕ → ℕ → Placement → Type 0
IsPlacementIn k n group p = (c : Content) × IsNumberOf k n c × IsPlacementOf c group p

-- each entry has the number of a content that is there, and the placement of that content's group;
-- `of` is the placement that a kept value shows
abbrev pub AreRight : {V : Type 0} → (V → Placement) → Numbered → List (Key × V) → Type 0
AreRight {V} of k entries = (e : Key × V) → Contains entries e → IsPlacementIn k e.0.number e.0.group (of e.1)
