use Rattle.std.proofs.Common.{◌≡◌, true}
use Rattle.std.specs.String.{string_bytes}
use Rattle.std.proofs.lemmas.Map.Text.{btree_set_updates_text}
use Rattle.crush_map.proofs.Tables.{has_name-more}
use Rattle.crush_map.proofs.names.Names.insert.Goals as goal

pub invariant_of-self-then-new : goal.invariant_of-self-then-new
invariant_of-self-then-new c = λ name.
    let key : string_bytes c.in_ok-key.key ≡ c.args.name.now = c.in_ok-key.ensures.ok in
    let text : c.in_ok-listed.listed ≡ c.args.name.now = c.in_ok-listed.ensures in
    rw (btree_set_updates_text (string_bytes c.in_ok-key.key) _ _ true c.in_ok-new.ensures.updates name, key, c.push_reserved.ensures.items, c.reserve.ensures.items, text)
    (has_name-more _ c.args.name.now name _ (c.self.invariant name))
