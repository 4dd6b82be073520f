-- The trace of a rule's run as one list.
use Rattle.std.specs.Prelude.{ℕ, ◌==◌, List, [], ◌∷◌, nat_lt, if◌then◌else◌}
use Rattle.crush_bucket.specs.Tables.{TablesView}
use Rattle.crush_map.specs.declared.draft.Step.{Step}
use Rattle.crush_choose.specs.Rules.{after_rule}

-- an ascending list with one more number, at its place; a number that is there stays the only one
abbrev pub with_number : ℕ → List ℕ → List ℕ
with_number n [] = n ∷ []
with_number n (m ∷ ms) = if nat_lt n m then n ∷ m ∷ ms else (if n == m then m ∷ ms else m ∷ with_number n ms)

-- the numbers of a list, each once and ascending
abbrev pub ascending : List ℕ → List ℕ
ascending [] = []
ascending (n ∷ ns) = with_number n (ascending ns)

-- the devices in the outputs of choose steps, each once and ascending
abbrev pub rule_trace : TablesView → List ℕ → List Step → ℕ → ℕ → List ℕ
rule_trace t w steps x size = ascending (after_rule t w steps x size).made
