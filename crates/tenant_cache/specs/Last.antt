-- What is found of all groups of a pool and kept for one content.
use Rattle.std.specs.Prelude.{◌≡◌, Option}
use Rattle.crush_pool.specs.Contents.{Content}
use Rattle.crush_map.specs.Map.{IsMap, Map}
use Rattle.crush_pool.specs.Placers.{PoolOnMap}
use Rattle.crush_text.specs.crush_writing.specs.Canonical.{canonical}

-- a content, and what was found for it, unless that is too large
pub record OfContent (G : Type 0) : Type 0 where
  pub content : Content
  pub found : Option G

-- what was found belongs to a content: it holds on each map that has the content's text
abbrev pub IsOf : {G : Type 0} → (PoolOnMap → G → Type 0) → Content → G → Type 0
IsOf are_on c found = (m : Map) → IsMap m → c.text ≡ canonical m → are_on (record { map = m; states = c.states; pool = c.pool; pairs = c.pairs }) found
