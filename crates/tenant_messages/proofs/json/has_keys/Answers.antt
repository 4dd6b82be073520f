use Rattle.std.proofs.Common.{refl}
use Rattle.serde_json.proofs.Views.{members_len-members_view}
use Rattle.tenant_messages.proofs.json.has_keys.Goals as goal

-- the map has as many members as the value
pub returns : goal.returns
returns c = rw (c.len.ensures.len, ← members_len-members_view c.in-Some.members.now.entries, ← c.in-Some.ensures) refl
