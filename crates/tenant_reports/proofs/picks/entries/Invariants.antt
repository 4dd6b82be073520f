use Rattle.std.proofs.Common.{◌≡◌, ◌++◌, drop, option_map}
use Rattle.serde_json.specs.View.{items_view}
use Rattle.tenant_reports.specs.Picks.{entry_of}
use Rattle.tenant_messages.specs.Json.{each_of}
use Rattle.tenant_reports.proofs.picks.entries.Given as goal

-- the entries so far, and then those of the remaining values, are all
abbrev pub invariant-loop-value : goal.invariant-loop-value
invariant-loop-value l =
    each_of entry_of (items_view l.values) ≡ option_map (λ others. l.found.items ++ others) (each_of entry_of (items_view (drop l.value-index l.values)))
