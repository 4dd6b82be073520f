use Rattle.std.proofs.Common.{Some, rules}
use Rattle.std.specs.declared.alloc.Global.{Global}
use Rattle.std.proofs.lemmas.Map.Text.{btree_map_updates_text}
use Rattle.std.specs.BTreeMap.{get_by_text}
use Rattle.tenant_store.proofs.Counts.{put}
use Rattle.tenant_store.proofs.judged.update.Goals as goal

pub returns-in-Some : goal.returns-in-Some
returns-in-Some c = put (get_by_text c.args.judged.now) (get_by_text (c.get_mut.follows.lender c.args.versions)) c.args.name.now c.args.versions
    (btree_map_updates_text {Y = Global} c.args.name.now c.args.judged.now (c.get_mut.follows.lender c.args.versions) (Some c.args.versions)
    ((c.get_mut.follows.holds c.args.versions).3 (search rules)))
