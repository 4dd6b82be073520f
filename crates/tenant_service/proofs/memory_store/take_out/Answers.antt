use Rattle.std.proofs.Common.{None}
use Rattle.std.proofs.lemmas.Map.Text.{btree_map_updates_text}
use Rattle.tenant_service.proofs.memory_store.take_out.Goals as goal

pub returns : goal.returns
returns c u = btree_map_updates_text c.args.name.now c.args.states.now c.remove-state.new.self None c.remove-state.ensures.updates u
