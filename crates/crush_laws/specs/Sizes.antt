-- The parts of an inventory, counted: the bytes of its texts, and the elements of its lists.
use Rattle.std.specs.Prelude.{ℕ, length}
use Rattle.std.specs.List.{sum_by}
use Rattle.tenant_core.specs.crush_text.specs.crush_writing.specs.Canonical.{canonical}
use Rattle.tenant_core.specs.tenant_state.specs.State.{Inventory}

-- the bytes of the canonical texts of its versions
abbrev pub text_bytes : Inventory → ℕ
text_bytes inventory = sum_by (λ m. length (canonical m)) inventory.versions

-- the items of the buckets of all its versions
abbrev pub item_count : Inventory → ℕ
item_count inventory = sum_by (λ m. sum_by (λ b. length b.items) m.buckets) inventory.versions

-- the steps of the rules of all its versions
abbrev pub step_count : Inventory → ℕ
step_count inventory = sum_by (λ m. sum_by (λ r. length r.steps) m.rules) inventory.versions

-- the pairs of its pools
abbrev pub pair_count : Inventory → ℕ
pair_count inventory = sum_by (λ p. length p.pairs) inventory.pools
