use Rattle.std.proofs.Common.{None}
use Rattle.std.proofs.lemmas.Map.Text.{btree_map_updates_text}
use Rattle.std.specs.BTreeMap.{get_by_text}
use Rattle.tenant_store.proofs.Counts.{taken}
use Rattle.tenant_store.proofs.judged.forget.Goals as goal

pub returns : goal.returns
returns c = taken (get_by_text c.args.judged.now) (get_by_text c.remove-versions.new.self) c.args.name.now
    (btree_map_updates_text c.args.name.now c.args.judged.now c.remove-versions.new.self None c.remove-versions.ensures.updates)
