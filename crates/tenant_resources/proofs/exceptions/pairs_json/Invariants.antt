use Rattle.std.proofs.Common.{◌≡◌, map, take}
use Rattle.serde_json.specs.View.{view}
use Rattle.tenant_resources.specs.Exceptions.{pair_json}
use Rattle.tenant_resources.proofs.exceptions.pairs_json.Given as goal

abbrev pub invariant-loop-pair : goal.invariant-loop-pair
invariant-loop-pair l = map view l.values.items ≡ map pair_json (take l.pair-index l.pairs)
