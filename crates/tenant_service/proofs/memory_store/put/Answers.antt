use Rattle.std.proofs.Common.{string_bytes, Some}
use Rattle.std.specs.declared.alloc.Global.{Global}
use Rattle.std.proofs.lemmas.Map.Text.{btree_map_updates_text}
use Rattle.tenant_service.proofs.memory_store.put.Goals as goal

pub returns-clause-ok : goal.returns-clause-ok
returns-clause-ok c u =
    rw (← c.in_ok-key.ensures.ok) (btree_map_updates_text {Y = Global} (string_bytes c.in_ok-key.key) c.args.states.now c.insert.new.self (Some c.args.state) c.in_ok-insert.ensures.updates u)
