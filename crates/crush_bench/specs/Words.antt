-- The range of what can be measured.
use Rattle.std.specs.Prelude.{◌≤◌, ⊤}
use Rattle.crush_map.specs.declared.limits.TheConstants.{ITEM_LIMIT, TRIES_LIMIT}
use Rattle.crush_bench.specs.declared.words.Work.{Work}
use Rattle.crush_bench.specs.declared.words.Work.TheVariants.{Small, Pick, Check, Text, Mappings}

-- a bucket of 1 to ITEM_LIMIT items, at least one input, and 1 to TRIES_LIMIT attempts for each;
-- mappings of at least one input
abbrev pub IsInRange : Work → Type 0
IsInRange Small = ⊤
IsInRange (Pick kind size questions) = (1 ≤ size) × (size ≤ ITEM_LIMIT) × (1 ≤ questions.inputs) × (1 ≤ questions.tries) × (questions.tries ≤ TRIES_LIMIT)
IsInRange Check = ⊤
IsInRange Text = ⊤
IsInRange (Mappings size inputs) = 1 ≤ inputs
